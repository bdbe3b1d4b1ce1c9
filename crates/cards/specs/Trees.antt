-- The code that a tree stands for.
use Rattle.std.specs.Prelude.{vec_items}
use Rattle.cards.specs.Code
use Rattle.cards.specs.declared.tree.Block.{Block}
use Rattle.cards.specs.declared.tree.Statement.{Statement}
use Rattle.cards.specs.declared.tree.Block.TheVariants.{End, Then', Set, Add, Point, Alias, Read, Write, Join, If, IfElse, Repeat, Task, With}

abbrev mutual
  pub block_of : Block → Code.Block
  block_of End = Code.end
  block_of (Then' p l s r) = Code.next l (statement_of s) (block_of r)

  pub statement_of : Statement → Code.Statement
  statement_of (Set i z) = Code.Statement.set i.n z
  statement_of (Add i j) = Code.Statement.add i.n j.n
  statement_of (Point p o) = Code.Statement.point p.n o
  statement_of (Alias p q) = Code.Statement.alias p.n q.n
  statement_of (Read i p) = Code.Statement.read i.n p.n
  statement_of (Write p i) = Code.Statement.write p.n i.n
  statement_of (Join p i) = Code.Statement.join p.n i.n
  statement_of (If i j x) = Code.Statement.if i.n j.n (block_of x)
  statement_of (IfElse i j x y) = Code.Statement.if_else i.n j.n (block_of x) (block_of y)
  statement_of (Repeat c x) = Code.Statement.repeat c (block_of x)
  statement_of (Task s x) = Code.Statement.task (vec_items s.lines) (block_of x)
  statement_of (With s) = Code.Statement.with (vec_items s.lines)
