-- A bench, and what is known of its run at a moment.
use Rattle.std.specs.Prelude.{ℕ, Bool, true, false, List, [], ◌∷◌, Some, None, Option}
use Rattle.kinds.specs.Kinds.{Kind}
use Rattle.cards.specs.Code.{Card}
use Rattle.working.specs.Tasks.{main, starting_words}
use Rattle.working.specs.Serial.{Outcome, words, fault}
use Rattle.runs.specs.Lines.{Status, waiting, out, stuck, is_stuck, Member, member}
use Rattle.runs.specs.Ready.{offered}

-- the objects' words, the line, and counts of the tasks made and the steps made
pub record Bench : Type 0 where
  pub run : ℕ
  pub store : List ℕ
  pub line : List Member
  pub made : ℕ
  pub steps : ℕ
  pub closed : Bool

unfoldable pub bench : ℕ → List ℕ → List Member → ℕ → ℕ → Bool → Bench
bench r m ss c n z = record { run = r; store = m; line = ss; made = c; steps = n; closed = z }

-- a card opened under a kind and a run number
unfoldable pub opened : Kind → Card → ℕ → Bench
opened k c r = bench r (starting_words k c) (member 0 waiting (main k c) ∷ []) 1 0 false

unfoldable pub offer : Bench → List ℕ
offer b = offered b.line b.line

-- no task is unfinished, or the first in line is stuck
unfoldable pub settled_line : List Member → Bool
settled_line [] = true
settled_line (s ∷ ss) = is_stuck s.status

unfoldable pub settled : Bench → Bool
settled b = settled_line b.line

-- then the outcome is the word in every object, or that fault with its line and its task's place
unfoldable pub stuck_outcome : List ℕ → Status → Option Outcome
stuck_outcome p waiting = None
stuck_outcome p out = None
stuck_outcome p (stuck f l) = Some (fault f l p)

unfoldable pub line_outcome : List ℕ → List Member → Option Outcome
line_outcome m [] = Some (words m)
line_outcome m (s ∷ ss) = stuck_outcome s.task.place s.status

unfoldable pub outcome : Bench → Option Outcome
outcome b = line_outcome b.store b.line
