-- What one line of the lines section says, by its words: the first word names a form, and each form has its words.
use Rattle.std.specs.Prelude.{ℕ, cond, List, [], ◌∷◌, ℤ, Some, None, Ok, Err, codes, Option, Result}
use Rattle.std.specs.Borrow.{Bor}
use Rattle.cards.specs.declared.lines.Access.{Access}
use Rattle.cards.specs.declared.lines.Access.TheVariants.{Rd, Wr, Cm}
use Rattle.cards.specs.declared.lines.Level.{Level}
use Rattle.cards.specs.declared.lines.Level.TheVariants as Lv
use Rattle.words.specs.declared.fault.WordFault.{WordFault}
use Rattle.words.specs.Tokens.{Seen, first, second, third, fourth}
use Rattle.words.specs.Reading.{read_by, is_word, as_number, as_literal, local_word, pointer_word, object_word, no_word}
use Rattle.loading.specs.declared.line.Keyword.{Keyword}
use Rattle.loading.specs.declared.line.Keyword.TheVariants as K
use Rattle.loading.specs.declared.line.Verb.{Verb}
use Rattle.loading.specs.declared.line.Verb.TheVariants as V
use Rattle.loading.specs.declared.line.Line as Rust
use Rattle.loading.specs.declared.line.Line.TheVariants as L

pub data Line : Type 0 where
  set : ℕ → ℤ → Line
  add point alias read write join if : ℕ → ℕ → Line
  repeat : ℕ → Line
  declare : Access → Level → ℕ → Line
  keyword : Keyword → Line

-- what comes after x, or its fault
abbrev pub then : {A B E : Type 0} → Result A E → (A → Result B E) → Result B E
then (Ok x) k = k x
then (Err e) k = Err e

-- The first words.

abbrev pub find : {A : Type 0} → List (List ℕ × A) → List ℕ → Option A
find [] w = None
find (e ∷ es) w = cond (is_word w e.0) (Some e.1) (find es w)

-- a table of words as the code holds it
abbrev pub entries : {A : Type 0} → List (Bor (List ℕ) × A) → List (List ℕ × A)
entries [] = []
entries (e ∷ es) = (e.0.now, e.1) ∷ entries es

abbrev pub statements : List (List ℕ × Verb)
statements = (codes "set", V.Set) ∷ (codes "add", V.Add) ∷ (codes "point", V.Point) ∷ (codes "alias", V.Alias) ∷ (codes "read", V.Read) ∷ (codes "write", V.Write) ∷ (codes "join", V.Join) ∷ (codes "if", V.If) ∷ (codes "repeat", V.Repeat) ∷ []

abbrev pub keywords : List (List ℕ × Verb)
keywords = (codes "else", V.Bare K.Else) ∷ (codes "task", V.Bare K.Task) ∷ (codes "do", V.Bare K.Do) ∷ (codes "with", V.Bare K.With) ∷ (codes "cont", V.Bare K.Cont) ∷ (codes "end", V.Bare K.End) ∷ []

-- immediate, deferred and withdrawn
abbrev pub declarations : List (List ℕ × Verb)
declarations = (codes "rd", V.Declare Rd Lv.Immediate) ∷ (codes "wr", V.Declare Wr Lv.Immediate) ∷ (codes "cm", V.Declare Cm Lv.Immediate) ∷ (codes "dfrd", V.Declare Rd Lv.Deferred) ∷ (codes "dfwr", V.Declare Wr Lv.Deferred) ∷ (codes "dfcm", V.Declare Cm Lv.Deferred) ∷ (codes "nord", V.Declare Rd Lv.Absent) ∷ (codes "nowr", V.Declare Wr Lv.Absent) ∷ (codes "nocm", V.Declare Cm Lv.Absent) ∷ []

abbrev pub or_else : {A : Type 0} → Option A → Option A → Option A
or_else None y = y
or_else (Some x) y = Some x

unfoldable pub verb : List ℕ → Option Verb
verb w = or_else (find statements w) (or_else (find keywords w) (find declarations w))

-- The words after the first.

-- two of them, and no word more
abbrev pub pair : {A B : Type 0} → (Seen → Result A WordFault) → (Seen → Result B WordFault) → Seen → Seen → Seen → Result (A × B) WordFault
pair f g s t u = then (f s) (λ a. then (g t) (λ b. then (no_word u) (λ _. Ok (a, b))))

-- the same, of what was read already
abbrev pub paired : {A B : Type 0} → Result A WordFault → Result B WordFault → Seen → Result (A × B) WordFault
paired x y u = pair (λ _. x) (λ _. y) u u u

abbrev pub two : {A B : Type 0} → (Seen → Result A WordFault) → (Seen → Result B WordFault) → (A → B → Line) → Seen → Seen → Seen → Result Line WordFault
two f g make s t u = then (pair f g s t u) (λ p. Ok (make p.0 p.1))

-- one, and no word more
abbrev pub one : {A : Type 0} → (Seen → Result A WordFault) → (A → Line) → Seen → Seen → Seen → Result Line WordFault
one f make s t u = then (f s) (λ a. then (no_word t) (λ _. Ok (make a)))

abbrev pub bare : Line → Seen → Seen → Seen → Result Line WordFault
bare x s t u = then (no_word s) (λ _. Ok x)

-- the form that the first word names, at the second, third and fourth place
abbrev pub operands : Verb → Seen → Seen → Seen → Result Line WordFault
operands V.Set s t u = two local_word as_literal set s t u
operands V.Add s t u = two local_word local_word add s t u
operands V.Point s t u = two pointer_word object_word point s t u
operands V.Alias s t u = two pointer_word pointer_word alias s t u
operands V.Read s t u = two local_word pointer_word read s t u
operands V.Write s t u = two pointer_word local_word write s t u
operands V.Join s t u = two pointer_word local_word join s t u
operands V.If s t u = two local_word local_word if s t u
operands V.Repeat s t u = one (as_number 0 255) repeat s t u
operands (V.Declare a v) s t u = one pointer_word (declare a v) s t u
operands (V.Bare k) s t u = bare (keyword k) s t u

-- what the words of line l say
unfoldable pub line_said : List (List ℕ) → ℕ → Result Line WordFault
line_said ws l = then (read_by verb (first ws l)) (λ v. operands v (second ws l) (third ws l) (fourth ws l))

-- The line that a value of the line type stands for.

abbrev pub line_of : Rust.Line → Line
line_of (L.Set i z) = set i.n z
line_of (L.Add i j) = add i.n j.n
line_of (L.Point p o) = point p.n o
line_of (L.Alias p q) = alias p.n q.n
line_of (L.Read i p) = read i.n p.n
line_of (L.Write p i) = write p.n i.n
line_of (L.Join p i) = join p.n i.n
line_of (L.If i j) = if i.n j.n
line_of (L.Repeat c) = repeat c
line_of (L.Declare a s p) = declare a s p.n
line_of (L.Keyword k) = keyword k

abbrev pub said : {E : Type 0} → Result Rust.Line E → Result Line E
said (Ok x) = Ok (line_of x)
said (Err e) = Err e
