-- The lines of a text, and those of the lines section as what they say.
use Rattle.std.specs.Prelude.{◌≡◌, ℕ, zero, suc, ◌+◌, cond, List, [], ◌∷◌, length, Some, None, Ok, Err, Option, Result, ◌==◌}
use Rattle.std.specs.Borrow.{Bor}
use Rattle.words.specs.declared.fault.WordFault.{WordFault}
use Rattle.words.specs.Cuts.{has, before, after}
use Rattle.words.specs.Tokens.{words}
use Rattle.loading.specs.declared.refusal.LineFault.{LineFault}
use Rattle.loading.specs.declared.refusal.LineFault.TheVariants.{Word, Missing, Unended, Surplus}
use Rattle.loading.specs.declared.cursor.Cursor.{Cursor}
use Rattle.loading.specs.declared.texts.Numbered.{Numbered}
use Rattle.loading.specs.Lines.{Line, line_of, line_said}

-- the bytes of the first line of s, which is line n of its text
unfoldable pub text_line : List ℕ → ℕ → Result (List ℕ) LineFault
text_line s n = cond (length s == 0) (Err (Missing n)) (cond (has 10 s) (Ok (before 10 s)) (Err (Unended n)))

-- a line of the lines section, or the fault that ends the reading
abbrev pub Said : Type 0
Said = Result Line LineFault

-- what a line says, and the lines after it
abbrev pub onto : Result Line WordFault → List Said → List Said
onto (Ok x) more = Ok x ∷ more
onto (Err f) more = Err (Word f) ∷ []

abbrev pub by_line : Result (List ℕ) LineFault → ℕ → List Said → List Said
by_line (Ok b) n more = onto (line_said (words b) n) more
by_line (Err e) n more = Err e ∷ []

-- nothing follows the last line
abbrev pub at_end : List ℕ → ℕ → List Said
at_end s n = cond (length s == 0) [] (Err (Surplus n) ∷ [])

-- the lines of a section of m lines that begins at line n of its text, as far as they are read
unfoldable pub section : ℕ → List ℕ → ℕ → List Said
section zero s n = at_end s n
section (suc m) s n = by_line (text_line s n) n (section m (after 10 s) (suc n))

-- A cursor's text, the number of its next line in the text, and the lines that are to come.

abbrev pub rest_of : Cursor → List ℕ
rest_of c = c.rest.now

abbrev pub text_number : Cursor → ℕ
text_number c = c.header + c.line

unfoldable pub upcoming : Cursor → List Said
upcoming c = section c.left (rest_of c) (text_number c)

-- the cursor moved on by a line
pub record Moved (c d : Cursor) : Type 0 where
  pub rest : rest_of d ≡ after 10 (rest_of c)
  pub line : d.line ≡ c.line + 1
  pub header : d.header ≡ c.header
  pub objects : d.objects ≡ c.objects
  pub left : d.left ≡ c.left

-- what taking a line answers and leaves
abbrev pub Takes : Result (Bor (List ℕ)) LineFault → Cursor → Cursor → Type 0
Takes (Ok b) c d = (text_line (rest_of c) (text_number c) ≡ Ok b.now) × Moved c d
Takes (Err e) c d = text_line (rest_of c) (text_number c) ≡ Err e

-- what asking for the next line of the section answers and leaves
abbrev pub Nexts : Result (Option Numbered) LineFault → Cursor → Cursor → Type 0
Nexts (Ok None) c d = (upcoming c ≡ []) × (upcoming d ≡ []) × (d.line ≡ c.line) × (d.header ≡ c.header) × (d.objects ≡ c.objects)
Nexts (Ok (Some x)) c d = (upcoming c ≡ Ok (line_of x.line) ∷ upcoming d) × (d.line ≡ c.line + 1) × (d.header ≡ c.header) × (d.objects ≡ c.objects) × (x.number ≡ text_number c)
Nexts (Err e) c d = upcoming c ≡ Err e ∷ []
