-- Which whole numbers are literals, and code and words of which every number is one.
use Rattle.std.specs.Prelude.{◌≡◌, Bool, true, not, ◌&&◌, List, [], ◌∷◌, ℤ, pos, neg_ℤ, int_lt}
use Rattle.cards.specs.Code.{Block, end, next, Statement, Card}

-- from -32768 to 32767
abbrev pub is_literal : ℤ → Bool
is_literal z = not (int_lt z (neg_ℤ (pos 32768))) && not (int_lt (pos 32767) z)

unfoldable pub all_literals : List ℤ → Bool
all_literals [] = true
all_literals (z ∷ zs) = is_literal z && all_literals zs

unfoldable mutual
  pub block_literals : Block → Bool
  block_literals end = true
  block_literals (next l s b) = statement_literals s && block_literals b

  pub statement_literals : Statement → Bool
  statement_literals (Statement.set i z) = is_literal z
  statement_literals (Statement.add i j) = true
  statement_literals (Statement.point p o) = true
  statement_literals (Statement.alias p q) = true
  statement_literals (Statement.read i p) = true
  statement_literals (Statement.write p i) = true
  statement_literals (Statement.join p i) = true
  statement_literals (Statement.if i j x) = block_literals x
  statement_literals (Statement.if_else i j x y) = block_literals x && block_literals y
  statement_literals (Statement.repeat c x) = block_literals x
  statement_literals (Statement.task ds x) = block_literals x
  statement_literals (Statement.with ds) = true

-- every number of a card is a literal
pub record Literals (c : Card) : Type 0 where
  pub words : all_literals c.words ≡ true
  pub body : block_literals c.body ≡ true
