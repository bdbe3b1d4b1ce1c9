-- The calls of a bench, and what they can answer.
use Rattle.std.specs.Prelude.{ℕ, List, [], ◌∷◌, Option}
use Rattle.working.specs.declared.fault.FaultKind.{FaultKind}
use Rattle.runs.specs.Queues.{Entry}
use Rattle.runs.specs.Choices.{Chooses}
use Rattle.runs.specs.Refusals.{Refusal}

-- What a program is handed: the state of a run that goes, the state of one that is closed, and a task's turn.
pub record Going : Type 0 where
  pub run : ℕ

pub record Closed : Type 0 where
  pub run : ℕ

pub record Turn : Type 0 where
  pub run : ℕ
  pub task : ℕ

abbrev pub going_state : ℕ → Going
going_state r = record { run = r }

abbrev pub closed_state : ℕ → Closed
closed_state r = record { run = r }

abbrev pub turn_of : ℕ → ℕ → Turn
turn_of r n = record { run = r; task = n }

-- A call may be given the states and turns of any bench.
-- take: under a scheduler's choice; look: an object's entry at a place; work_off: under choices, one for each pick;
-- sheet: into a buffer
pub data Call : Type 0 where
  take : Going → (List ℕ → ℕ) → Call
  perform hand_back : Turn → Call
  look : ℕ → ℕ → Call
  work_off : Going → (ℕ → List ℕ → ℕ) → Call
  close : Going → Call
  sheet : Closed → List ℕ → Call

-- a refusal, where what was given up is handed back; or what a granted call gives
pub data Answer : Type 0 where
  refused : Refusal → Answer
  turn : Turn → Answer
  done : Answer
  fault : FaultKind → ℕ → Answer
  returned : Answer
  entry : Option Entry → Answer
  going : Going → Answer
  closed : Closed → Answer
  written : ℕ → Answer

-- the choices in a call keep the law
abbrev pub LawfulCall : Call → Type 0
LawfulCall (take g f) = Chooses f
LawfulCall (perform t) = Unit {0}
LawfulCall (hand_back t) = Unit {0}
LawfulCall (look o i) = Unit {0}
LawfulCall (work_off g fs) = (i : ℕ) → Chooses (fs i)
LawfulCall (close g) = Unit {0}
LawfulCall (sheet z buffer) = Unit {0}

abbrev pub LawfulCalls : List Call → Type 0
LawfulCalls [] = Unit {0}
LawfulCalls (x ∷ xs) = LawfulCall x × LawfulCalls xs
