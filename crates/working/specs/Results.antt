-- What serial working answers.
use Rattle.std.specs.Prelude.{◌≡◌, ℕ, ◌≤◌, Vec, vec_items, Some, Result, Ok, Err}
use Rattle.std.specs.declared.alloc.Global.{Global}
use Rattle.kinds.specs.Kinds.{Kind}
use Rattle.cards.specs.Code.{Card}
use Rattle.cards.specs.Bounds.{card_steps, card_tasks}
use Rattle.working.specs.Serial as Serial
use Rattle.working.specs.declared.fault.TaskFault.{TaskFault}
use Rattle.working.specs.declared.serial.Worked.{Worked}
use Rattle.working.specs.Works.{ranks_of}

abbrev pub outcome_of : Result (Vec ℕ Global) TaskFault → Serial.Outcome
outcome_of (Ok v) = Serial.words (vec_items v)
outcome_of (Err f) = Serial.fault f.fault.kind f.fault.line (ranks_of f.place)

abbrev pub result_of : Worked → Serial.Result
result_of w = Serial.result (outcome_of w.outcome) w.steps w.made

-- w is what the card c comes to, by the function and by the relation, within the card's bounds
pub record WorkedSerially (k : Kind) (c : Card) (w : Worked) : Type 0 where
  pub value : Serial.serially k c ≡ Some (result_of w)
  pub related : Serial.Serially k c (result_of w)
  pub steps : w.steps ≤ card_steps c
  pub made : w.made ≤ card_tasks c
