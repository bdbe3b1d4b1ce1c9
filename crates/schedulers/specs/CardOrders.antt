-- The order that a card names, as a state that each pick carries on.
use Rattle.std.specs.Prelude.{ℕ, ◌<◌, List, ◌∷◌, length}
use Rattle.std.proofs.Common.{arith}
use Rattle.cards.specs.declared.lines.OrderName.{OrderName}
use Rattle.cards.specs.declared.lines.OrderName.TheVariants as Name
use Rattle.schedulers.specs.Schedulers as scheduler
use Rattle.schedulers.specs.Fronts.{narrow_inside}
use Rattle.schedulers.specs.Rounds.{turns_inside}
use Rattle.schedulers.specs.declared.card_order.CardOrder.{CardOrder}
use Rattle.schedulers.specs.declared.card_order.CardOrder.TheVariants.{First, Last, Turns, Narrow}

-- an order between two picks; turns has its number, narrow its width
pub data State : Type 0 where
  first : State
  last : State
  turns : ℕ → State
  narrow : ℕ → State

-- the order by its name, before the first pick
abbrev pub start : OrderName → State
start Name.First = first
start Name.Last = last
start Name.Turns = turns 0
start Name.Narrow = narrow 4

-- the place that it chooses from a list
abbrev pub chosen : State → List ℕ → ℕ
chosen first = scheduler.first
chosen last = scheduler.last
chosen (turns k) = scheduler.turns k
chosen (narrow w) = scheduler.narrow w scheduler.last

-- the order after a pick from a list
abbrev pub after : State → List ℕ → State
after first xs = first
after last xs = last
after (turns k) xs = turns (scheduler.turns_next k xs)
after (narrow w) xs = narrow w

-- the state that the program holds
abbrev pub state : CardOrder → State
state (First s) = first
state (Last s) = last
state (Turns s) = turns s.k
state (Narrow s) = narrow s.width

-- what an order chooses from a list that is not empty is a place in it
pub chosen_inside : (s : CardOrder) (x : ℕ) (xs : List ℕ) → chosen (state s) (x ∷ xs) < length (x ∷ xs)
chosen_inside (First s) x xs = omega arith
chosen_inside (Last s) x xs = omega arith
chosen_inside (Turns s) x xs = turns_inside s.k x xs
chosen_inside (Narrow s) x xs = narrow_inside scheduler.last s.width x xs (λ y ys. omega arith) s.some
