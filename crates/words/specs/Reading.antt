-- What a place of a line is read as, or the word's fault.
use Rattle.std.specs.Prelude.{◌≡◌, ℕ, Bool, cond, List, ℤ, Some, None, Ok, Err, Option, Result}
use Rattle.std.specs.Str.{bytes_eq}
use Rattle.cards.specs.declared.names.Local.{Local}
use Rattle.cards.specs.declared.names.Pointer.{Pointer}
use Rattle.words.specs.declared.fault.WordFault.{WordFault}
use Rattle.words.specs.declared.fault.WordFault.TheVariants.{Unfit, Missing, Surplus}
use Rattle.words.specs.declared.tokens.Place.{Place}
use Rattle.words.specs.Tokens.{Seen, word, absent}
use Rattle.words.specs.Numbers.{number, not_below, literal}
use Rattle.words.specs.Names.{name, as_local, as_pointer, as_object}

abbrev pub or_unfit : {A : Type 0} → Option A → Place → Result A WordFault
or_unfit None p = Err (Unfit p)
or_unfit (Some x) p = Ok x

-- the word at a place, read by f
abbrev pub read_by : {A : Type 0} → (List ℕ → Option A) → Seen → Result A WordFault
read_by f (word w p) = or_unfit (f w) p
read_by f (absent p) = Err (Missing p)

-- the same, where R says which readings a word may get
abbrev pub ReadBy : {A : Type 0} → (List ℕ → Option A → Type 0) → Seen → Result A WordFault → Type 0
ReadBy {A} R (word w p) r = (o : Option A) × R w o × (r ≡ or_unfit o p)
ReadBy R (absent p) r = r ≡ Err (Missing p)

unfoldable pub is_word : List ℕ → List ℕ → Bool
is_word v w = bytes_eq v w

abbrev pub same_word : List ℕ → List ℕ → Option (Unit {0})
same_word v w = cond (is_word w v) (Some tt) None

-- the word v itself
abbrev pub exact : List ℕ → Seen → Result (Unit {0}) WordFault
exact v t = read_by (same_word v) t

abbrev pub as_number : ℕ → ℕ → Seen → Result ℕ WordFault
as_number min max t = read_by (λ w. not_below min (number max w)) t

abbrev pub as_literal : Seen → Result ℤ WordFault
as_literal t = read_by literal t

abbrev pub local_word : Seen → Result ℕ WordFault
local_word t = read_by (λ w. as_local (name w)) t

abbrev pub pointer_word : Seen → Result ℕ WordFault
pointer_word t = read_by (λ w. as_pointer (name w)) t

abbrev pub object_word : Seen → Result ℕ WordFault
object_word t = read_by (λ w. as_object (name w)) t

-- no word more
abbrev pub no_word : Seen → Result (Unit {0}) WordFault
no_word (word w p) = Err (Surplus p)
no_word (absent p) = Ok tt

-- the number in a name's type
abbrev pub local_of : Result Local WordFault → Result ℕ WordFault
local_of (Ok i) = Ok i.n
local_of (Err f) = Err f

abbrev pub pointer_of : Result Pointer WordFault → Result ℕ WordFault
pointer_of (Ok i) = Ok i.n
pointer_of (Err f) = Err f
