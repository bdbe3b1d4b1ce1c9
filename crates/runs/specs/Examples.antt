-- Runs of two cards, worked out.
use Rattle.std.specs.Prelude.{◌≡◌, ℕ, ◌-◌, ◌^◌, true, List, [], ◌∷◌, ◌++◌, replicate, pos, negsuc, Some, None, codes, Option, option_and_then}
use Prim.Native.String.{String}
use Rattle.kinds.specs.Values.{tally}
use Rattle.cards.specs.declared.lines.Access.{Access}
use Rattle.cards.specs.declared.lines.Access.TheVariants.{Rd, Wr, Cm}
use Rattle.cards.specs.declared.lines.Level.TheVariants.{Immediate}
use Rattle.cards.specs.declared.lines.Declaration.{Declaration}
use Rattle.cards.specs.declared.lines.KindName.TheVariants.{Tally}
use Rattle.cards.specs.declared.lines.OrderName.TheVariants.{Last}
use Rattle.cards.specs.Code.{end, next, Statement, Card}
use Rattle.working.specs.declared.fault.FaultKind.TheVariants.{Read}
use Rattle.working.specs.Tasks.{everything}
use Rattle.working.specs.Serial.{Outcome, fault}
use Rattle.runs.specs.Benches.{Bench, bench, opened, outcome}
use Rattle.runs.specs.Events.{Event, took, performed, handed_back, replay}
use Rattle.runs.specs.Refusals.{NothingToOffer, Foreign, Unsettled, BufferTooShort}
use Rattle.runs.specs.Calls.{going_state, closed_state, turn_of, Call, take, perform, hand_back, look, work_off, close, sheet, Answer, refused, turn, returned, entry, going, closed, written}
use Rattle.runs.specs.Answers.{answer, sheet_call}

abbrev declare : ℕ → Access → ℕ → Declaration
declare l a p = record { line = l; access = a; level = Immediate; pointer = p }

-- the bytes of lines
abbrev text : List String → List ℕ
text [] = []
text (l ∷ ls) = codes l ++ (10 ∷ text ls)

-- each task takes a turn and performs it, in this order
abbrev turn_by_turn : List ℕ → List Event
turn_by_turn [] = []
turn_by_turn (n ∷ ns) = took n ∷ performed n ∷ turn_by_turn ns

-- objects 4 and -90; `point p0 o0`, `point p1 o1`, `task`, `rd p0`, `cm p1`, `do`, `read n0 p0`, `join p1 n0`, `end`,
-- `task`, `cm p1`, `do`, `set n0 7`, `join p1 n0`, `end`
abbrev two_children : Card
two_children = record {
  kind = Tally;
  order = Last;
  words = pos 4 ∷ negsuc 89 ∷ [];
  body =
      next 1 (Statement.point 0 0)
      (next 2 (Statement.point 1 1)
      (next 3 (Statement.task (declare 4 Rd 0 ∷ declare 5 Cm 1 ∷ []) (next 7 (Statement.read 0 0) (next 8 (Statement.join 1 0) end)))
      (next 10 (Statement.task (declare 11 Cm 1 ∷ []) (next 13 (Statement.set 0 (pos 7)) (next 14 (Statement.join 1 0) end)))
      end)));
}

-- main makes both children, and the second is worked before the first; or both have turns out at once
abbrev backwards : List Event
backwards = turn_by_turn (0 ∷ 0 ∷ 0 ∷ 0 ∷ 0 ∷ 2 ∷ 2 ∷ 2 ∷ 1 ∷ 1 ∷ 1 ∷ []) ++ (Event.closed ∷ [])

abbrev side_by_side : List Event
side_by_side =
    turn_by_turn (0 ∷ 0 ∷ 0 ∷ 0 ∷ [])
    ++ (took 1 ∷ took 2 ∷ took 0 ∷ performed 2 ∷ performed 0 ∷ performed 1 ∷ took 2 ∷ took 1 ∷ performed 2 ∷ handed_back 1 ∷ took 1 ∷ performed 1 ∷ [])
    ++ turn_by_turn (1 ∷ 2 ∷ [])
    ++ (Event.closed ∷ [])

-- words 4 and -79, 3 tasks, 11 steps
abbrev two_children_closed : Bench
two_children_closed = bench 7 (4 ∷ (2 ^ 32 - 79) ∷ []) [] 3 11 true

abbrev two_children_sheet : List ℕ
two_children_sheet = text ("run 2" ∷ "tasks 3" ∷ "steps 11" ∷ "objects 2" ∷ "4" ∷ "-79" ∷ [])

-- two objects 0; `point p1 o1`, `task`, `wr p0`, `do`, `read n0 p0`, `end`, `task`, `cm p1`, `do`, `write p1 n0`, `end`
abbrev two_faults : Card
two_faults = record {
  kind = Tally;
  order = Last;
  words = pos 0 ∷ pos 0 ∷ [];
  body =
      next 1 (Statement.point 1 1)
      (next 2 (Statement.task (declare 3 Wr 0 ∷ []) (next 5 (Statement.read 0 0) end))
      (next 7 (Statement.task (declare 8 Cm 1 ∷ []) (next 10 (Statement.write 1 0) end))
      end));
}

abbrev after : List Event → Option Bench
after es = replay tally es (opened tally two_faults 3)

-- the outcome, if the run is settled
abbrev settles : List Event → Option Outcome
settles es = option_and_then outcome (after es)

-- the answers of a list of calls
abbrev answers : List Call → Bench → List Answer
answers [] b = []
answers (x ∷ xs) b = (answer tally x b).0 ∷ answers xs (answer tally x b).1

abbrev first : List ℕ → ℕ
first ns = 0

pub record WorkedExamples : Type 0 where
  pub backwards_closes : replay tally backwards (opened tally two_children 7) ≡ Some two_children_closed
  pub side_by_side_closes : replay tally side_by_side (opened tally two_children 7) ≡ Some two_children_closed
  pub sheet_written : sheet_call tally (closed_state 7) (replicate 50 46) two_children_closed ≡ (written 39, two_children_sheet ++ replicate 11 46)
  pub buffer_too_short : sheet_call tally (closed_state 7) (replicate 38 46) two_children_closed ≡ (refused BufferTooShort, replicate 38 46)
  -- the first in line tells the fault, whichever task faults first
  pub first_faults_first : settles (turn_by_turn (0 ∷ 0 ∷ 1 ∷ [])) ≡ Some (fault Read 5 (1 ∷ []))
  pub second_faults_first : settles (turn_by_turn (0 ∷ 0 ∷ 0 ∷ 2 ∷ 1 ∷ [])) ≡ Some (fault Read 5 (1 ∷ []))
  pub second_faults_alone : settles (turn_by_turn (0 ∷ 0 ∷ 0 ∷ 2 ∷ 0 ∷ [])) ≡ None
  pub both_out : settles (turn_by_turn (0 ∷ 0 ∷ 0 ∷ []) ++ (took 2 ∷ took 0 ∷ took 1 ∷ performed 1 ∷ performed 0 ∷ performed 2 ∷ Event.closed ∷ [])) ≡ Some (fault Read 5 (1 ∷ []))
  -- refusals, the foreign ones first
  pub refusals :
      answers (
      take (going_state 8) first ∷ close (going_state 7) ∷ close (going_state 8) ∷ perform (turn_of 7 0) ∷ take (going_state 7) first ∷ take (going_state 7) first ∷ work_off (going_state 7) (λ i. first)
      ∷ hand_back (turn_of 8 0) ∷ hand_back (turn_of 7 0) ∷ hand_back (turn_of 7 0) ∷ look 1 0 ∷ look 1 1 ∷ look 2 0 ∷ sheet (closed_state 7) [] ∷ work_off (going_state 7) (λ i. first) ∷ take (going_state 7) first
      ∷ close (going_state 7) ∷ close (going_state 7) ∷ take (going_state 7) first ∷ sheet (closed_state 8) [] ∷ sheet (closed_state 7) [] ∷ []
      ) (opened tally two_children 7) ≡ (
      refused Foreign ∷ refused Unsettled ∷ refused Foreign ∷ refused Foreign ∷ turn (turn_of 7 0) ∷ refused NothingToOffer ∷ refused Unsettled
      ∷ refused Foreign ∷ returned ∷ refused Foreign ∷ entry (Some (record { number = 0; declared = everything })) ∷ entry None ∷ entry None ∷ refused Foreign ∷ going (going_state 7) ∷ refused NothingToOffer
      ∷ closed (closed_state 7) ∷ refused Foreign ∷ refused Foreign ∷ refused Foreign ∷ refused BufferTooShort ∷ []
      )
