-- Reading the lines before the lines section: `bench 2`, the kind, the order, the objects with their literals, and the count of lines.
use Rattle.std.specs.Prelude.{◌≡◌, ℕ, zero, suc, ◌+◌, List, [], ◌∷◌, ◌++◌, ℤ, Ok, Err, vec_items, codes, Result, Vec}
use Rattle.std.specs.declared.alloc.Global.{Global}
use Rattle.cards.specs.declared.lines.KindName.{KindName}
use Rattle.cards.specs.declared.lines.KindName.TheVariants as Kind
use Rattle.cards.specs.declared.lines.OrderName.{OrderName}
use Rattle.cards.specs.declared.lines.OrderName.TheVariants as Order
use Rattle.words.specs.declared.fault.WordFault.{WordFault}
use Rattle.words.specs.Cuts.{after}
use Rattle.words.specs.Tokens.{Seen, words, first, second, third}
use Rattle.words.specs.Reading.{read_by, exact, as_number, as_literal, no_word}
use Rattle.loading.specs.declared.refusal.LineFault.{LineFault}
use Rattle.loading.specs.declared.refusal.LineFault.TheVariants.{Word}
use Rattle.loading.specs.declared.refusal.LoadRefusal.{LoadRefusal}
use Rattle.loading.specs.declared.refusal.LoadRefusal.TheVariants as R
use Rattle.loading.specs.declared.cursor.Cursor.{Cursor}
use Rattle.loading.specs.declared.head.Header as Rust
use Rattle.loading.specs.Lines.{then, find}
use Rattle.loading.specs.Texts.{text_line, rest_of, text_number}

-- a fixed word, one word more read by f, and no other
abbrev pub worded : {A : Type 0} → List ℕ → (Seen → Result A WordFault) → Seen → Seen → Seen → Result A WordFault
worded v f s t u = then (exact v s) (λ _. then (f t) (λ x. then (no_word u) (λ _. Ok x)))

-- the words of line n by that form
abbrev pub worded_form : {A : Type 0} → List ℕ → (Seen → Result A WordFault) → List (List ℕ) → ℕ → Result A WordFault
worded_form v f ws n = worded v f (first ws n) (second ws n) (third ws n)

abbrev pub kinds : List (List ℕ × KindName)
kinds = (codes "tally", Kind.Tally) ∷ (codes "flags", Kind.Flags) ∷ []

abbrev pub orders : List (List ℕ × OrderName)
orders = (codes "first", Order.First) ∷ (codes "last", Order.Last) ∷ (codes "turns", Order.Turns) ∷ (codes "narrow", Order.Narrow) ∷ []

abbrev pub kind_name : Seen → Result KindName WordFault
kind_name t = read_by (find kinds) t

abbrev pub order_name : Seen → Result OrderName WordFault
order_name t = read_by (find orders) t

-- The forms, by the words of line n.

abbrev pub Form : Type 0 → Type 0
Form A = List (List ℕ) → ℕ → Result A WordFault

unfoldable pub bench_form : Form (Unit {0})
bench_form ws n = worded (codes "bench") (exact (codes "2")) (first ws n) (second ws n) (third ws n)

unfoldable pub kind_form : Form KindName
kind_form ws n = worded (codes "kind") kind_name (first ws n) (second ws n) (third ws n)

unfoldable pub order_form : Form OrderName
order_form ws n = worded (codes "order") order_name (first ws n) (second ws n) (third ws n)

unfoldable pub objects_form : Form ℕ
objects_form ws n = worded (codes "objects") (as_number 1 16) (first ws n) (second ws n) (third ws n)

unfoldable pub lines_form : Form ℕ
lines_form ws n = worded (codes "lines") (as_number 0 256) (first ws n) (second ws n) (third ws n)

unfoldable pub literal_form : Form ℤ
literal_form ws n = then (as_literal (first ws n)) (λ z. then (no_word (second ws n)) (λ _. Ok z))

-- A line of the header by its form, and the text after it.

abbrev pub formed : {A : Type 0} → Result A WordFault → List ℕ → Result (A × List ℕ) LineFault
formed (Ok x) s = Ok (x, after 10 s)
formed (Err f) s = Err (Word f)

abbrev pub by_form : {A : Type 0} → Form A → Result (List ℕ) LineFault → List ℕ → ℕ → Result (A × List ℕ) LineFault
by_form f (Ok b) s n = formed (f (words b) n) s
by_form f (Err e) s n = Err e

abbrev pub header_line : {A : Type 0} → Form A → List ℕ → ℕ → Result (A × List ℕ) LineFault
header_line f s n = by_form f (text_line s n) s n

-- m literals, one a line, after those of vs
unfoldable pub literals_after : ℕ → List ℤ → List ℕ → ℕ → Result (List ℤ × List ℕ) LineFault
literals_after zero vs s n = Ok (vs, s)
literals_after (suc m) vs s n = then (header_line literal_form s n) (λ p. literals_after m (vs ++ p.0 ∷ []) p.1 (suc n))

pub record Header : Type 0 where
  pub kind : KindName
  pub order : OrderName
  pub words : List ℤ
  pub lines : ℕ

-- the line n by its form, and then k of what it says and of the text after it
unfoldable pub next_line : {A B : Type 0} → Form A → List ℕ → ℕ → (A → List ℕ → Result B LineFault) → Result B LineFault
next_line f s n k = then (header_line f s n) (λ p. k p.0 p.1)

unfoldable pub next_literals : {B : Type 0} → ℕ → List ℕ → ℕ → (List ℤ → List ℕ → Result B LineFault) → Result B LineFault
next_literals m s n k = then (literals_after m [] s n) (λ p. k p.0 p.1)

-- the header of a text, and the text after it
unfoldable pub read_header : List ℕ → Result (Header × List ℕ) LineFault
read_header s =
    next_line bench_form s 1 λ _ s.
    next_line kind_form s 2 λ kind s.
    next_line order_form s 3 λ order s.
    next_line objects_form s 4 λ count s.
    next_literals count s 5 λ words s.
    next_line lines_form s (5 + count) λ lines s.
    Ok (record { kind = kind; order = order; words = words; lines = lines }, s)

-- What the readers answer and leave.

abbrev pub HeaderLine : {A : Type 0} → Form A → Result A LineFault → Cursor → Cursor → Type 0
HeaderLine f (Ok x) c d = (header_line f (rest_of c) (text_number c) ≡ Ok (x, rest_of d)) × (text_number d ≡ text_number c + 1)
HeaderLine f (Err e) c d = header_line f (rest_of c) (text_number c) ≡ Err e

-- but for want of memory
abbrev pub HeaderIs : {A B : Type 0} → (A → B) → Result A LoadRefusal → Result (B × List ℕ) LineFault → Cursor → Type 0
HeaderIs f (Ok x) o d = o ≡ Ok (f x, rest_of d)
HeaderIs f (Err (R.Line e)) o d = o ≡ Err e
HeaderIs f (Err R.Memory) o d = Unit {0}
HeaderIs f (Err R.TooLong) o d = ⊥
HeaderIs f (Err R.TooManyTasks) o d = ⊥
HeaderIs f (Err R.TooManySteps) o d = ⊥

abbrev pub literals_of : Vec ℤ Global → List ℤ
literals_of v = vec_items v

abbrev pub header_of : Rust.Header → Header
header_of h = record { kind = h.kind; order = h.order; words = vec_items h.words; lines = h.lines }
