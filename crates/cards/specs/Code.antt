-- What a card says: starting words and a block of statements, each with its line in the lines section, from 1.
-- An `if` without `else` and one with an empty `else` are two statements, so that a card tells its text.
use Rattle.std.specs.Prelude.{ℕ, List, ℤ}
pub use Rattle.cards.specs.declared.lines.Access.{Access}
pub use Rattle.cards.specs.declared.lines.Level.{Level}
pub use Rattle.cards.specs.declared.lines.Declaration.{Declaration}
pub use Rattle.cards.specs.declared.lines.KindName.{KindName}
pub use Rattle.cards.specs.declared.lines.OrderName.{OrderName}

mutual
  pub data Block : Type 0 where
    end : Block
    next : ℕ → Statement → Block → Block

  pub data Statement : Type 0 where
    set : ℕ → ℤ → Statement
    add point alias read write join : ℕ → ℕ → Statement
    if : ℕ → ℕ → Block → Statement
    if_else : ℕ → ℕ → Block → Block → Statement
    repeat : ℕ → Block → Statement
    task : List Declaration → Block → Statement
    with : List Declaration → Statement

-- the statements of the first, then those of the second
infixr 60 ◌before◌
unfoldable pub ◌before◌ : Block → Block → Block
end before c = c
(next l s b) before c = next l s (b before c)

pub record Card : Type 0 where
  pub kind : KindName
  pub order : OrderName
  pub words : List ℤ
  pub body : Block
