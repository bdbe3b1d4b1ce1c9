-- What a card has to be, besides numbers, to be written.
use Rattle.std.specs.Prelude.{◌≡◌, ℕ, ◌+◌, ◌≤◌, List, [], ◌∷◌, length, ℤ}
use Rattle.std.specs.Int.Signed.{mag}
use Rattle.std.specs.List.{AllByRecursion}
use Rattle.cards.specs.Code.{Block, end, next, Statement, Card}
use Rattle.cards.specs.Bounds.{line_count, statement_lines, WithinLimits}
use Rattle.cards.specs.declared.lines.Level.{Level}
use Rattle.cards.specs.declared.lines.Level.TheVariants.{Absent, Deferred, Immediate}
use Rattle.cards.specs.declared.lines.Declaration.{Declaration}
use Rattle.loading.specs.Lines as Lines
use Rattle.loading.specs.Lines.{Line}
use Rattle.written.specs.Written.{body_lines}

-- from -32768 to 32767; `mag` is n at both n and -(n + 1)
abbrev pub Literal : ℤ → Type 0
Literal z = mag z ≤ 32767

-- the names are n0 to n3, p0 to p3 and o0 to o15, and a count is at most 255
abbrev pub FitsLine : Line → Type 0
FitsLine (Lines.set i z) = (i ≤ 3) × Literal z
FitsLine (Lines.add i j) = (i ≤ 3) × (j ≤ 3)
FitsLine (Lines.point p o) = (p ≤ 3) × (o ≤ 15)
FitsLine (Lines.alias p q) = (p ≤ 3) × (q ≤ 3)
FitsLine (Lines.read i p) = (i ≤ 3) × (p ≤ 3)
FitsLine (Lines.write p i) = (p ≤ 3) × (i ≤ 3)
FitsLine (Lines.join p i) = (p ≤ 3) × (i ≤ 3)
FitsLine (Lines.if i j) = (i ≤ 3) × (j ≤ 3)
FitsLine (Lines.repeat c) = c ≤ 255
FitsLine (Lines.declare a v p) = p ≤ 3
FitsLine (Lines.keyword k) = Unit {0}

-- Each line number is the place in the lines section.

-- the first declaration stands on line l
abbrev pub NumberedDeclarations : List Declaration → ℕ → Type 0
NumberedDeclarations [] l = Unit {0}
NumberedDeclarations (d ∷ ds) l = (d.line ≡ l) × NumberedDeclarations ds (l + 1)

abbrev pub Given : Level → Type 0
Given Absent = ⊥
Given Deferred = Unit {0}
Given Immediate = Unit {0}

-- the first statement of a block, or a statement itself, stands on line l; a task has no withdrawn declaration
unfoldable mutual
  pub Numbered : Block → ℕ → Type 0
  Numbered end l = Unit {0}
  Numbered (next m s b) l = (m ≡ l) × NumberedInside s l × Numbered b (l + statement_lines s)

  pub NumberedInside : Statement → ℕ → Type 0
  NumberedInside (Statement.set i z) l = Unit {0}
  NumberedInside (Statement.add i j) l = Unit {0}
  NumberedInside (Statement.point p o) l = Unit {0}
  NumberedInside (Statement.alias p q) l = Unit {0}
  NumberedInside (Statement.read i p) l = Unit {0}
  NumberedInside (Statement.write p i) l = Unit {0}
  NumberedInside (Statement.join p i) l = Unit {0}
  NumberedInside (Statement.if i j x) l = Numbered x (l + 1)
  NumberedInside (Statement.if_else i j x y) l = Numbered x (l + 1) × Numbered y (l + 2 + line_count x)
  NumberedInside (Statement.repeat c x) l = Numbered x (l + 1)
  NumberedInside (Statement.task ds x) l = AllByRecursion (λ d. Given d.level) ds × NumberedDeclarations ds (l + 1) × Numbered x (l + 2 + length ds)
  NumberedInside (Statement.with ds) l = NumberedDeclarations ds (l + 1)

pub record WellFormed (c : Card) : Type 0 where
  pub limits : WithinLimits c
  pub literals : AllByRecursion Literal c.words
  pub names : AllByRecursion FitsLine (body_lines c)
  pub numbers : Numbered c.body 1
