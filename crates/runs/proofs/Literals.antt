-- What the tests of literals say.
use Rattle.std.proofs.Common.{◌≡◌, true, List, [], ◌∷◌, ℤ, arith}
use Rattle.std.specs.List.{AllByRecursion}
use Rattle.std.proofs.lemmas.Int.{ints}
use Rattle.std.proofs.lemmas.Bool.{and_parts}
use Rattle.kinds.specs.Kinds.{IsLiteral}
use Rattle.cards.specs.Code.{Block, end, next, Statement}
use Rattle.cards.specs.Literals.{is_literal, all_literals, block_literals, statement_literals}

abbrev mutual
  pub BlockLiterals : Block → Type 0
  BlockLiterals end = Unit {0}
  BlockLiterals (next l s b) = StatementLiterals s × BlockLiterals b

  pub StatementLiterals : Statement → Type 0
  StatementLiterals (Statement.set i z) = IsLiteral z
  StatementLiterals (Statement.add i j) = Unit {0}
  StatementLiterals (Statement.point p o) = Unit {0}
  StatementLiterals (Statement.alias p q) = Unit {0}
  StatementLiterals (Statement.read i p) = Unit {0}
  StatementLiterals (Statement.write p i) = Unit {0}
  StatementLiterals (Statement.join p i) = Unit {0}
  StatementLiterals (Statement.if i j x) = BlockLiterals x
  StatementLiterals (Statement.if_else i j x y) = BlockLiterals x × BlockLiterals y
  StatementLiterals (Statement.repeat c x) = BlockLiterals x
  StatementLiterals (Statement.task ds x) = BlockLiterals x
  StatementLiterals (Statement.with ds) = Unit {0}

literal_is : (z : ℤ) → is_literal z ≡ true → IsLiteral z
literal_is z e = (grind (arith, ints), grind (arith, ints))

pub literals_are : (zs : List ℤ) → all_literals zs ≡ true → AllByRecursion IsLiteral zs
unfolding all_literals
literals_are [] e = tt
literals_are (z ∷ zs) e = let h = and_parts (is_literal z) (all_literals zs) e in (literal_is z h.0, literals_are zs h.1)

mutual
  unfolding block_literals statement_literals

  pub block_literals_are : (b : Block) → block_literals b ≡ true → BlockLiterals b
  block_literals_are end e = tt
  block_literals_are (next l s b) e = let h = and_parts (statement_literals s) (block_literals b) e in (statement_literals_are s h.0, block_literals_are b h.1)

  statement_literals_are : (s : Statement) → statement_literals s ≡ true → StatementLiterals s
  statement_literals_are (Statement.set i z) e = literal_is z e
  statement_literals_are (Statement.add i j) e = tt
  statement_literals_are (Statement.point p o) e = tt
  statement_literals_are (Statement.alias p q) e = tt
  statement_literals_are (Statement.read i p) e = tt
  statement_literals_are (Statement.write p i) e = tt
  statement_literals_are (Statement.join p i) e = tt
  statement_literals_are (Statement.if i j x) e = block_literals_are x e
  statement_literals_are (Statement.if_else i j x y) e = let h = and_parts (block_literals x) (block_literals y) e in (block_literals_are x h.0, block_literals_are y h.1)
  statement_literals_are (Statement.repeat c x) e = block_literals_are x e
  statement_literals_are (Statement.task ds x) e = block_literals_are x e
  statement_literals_are (Statement.with ds) e = tt
