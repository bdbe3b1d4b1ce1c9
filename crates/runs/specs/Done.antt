-- The steps that calls make: the performs that answer done, those in work-offs too.
use Rattle.std.specs.Prelude.{ℕ, zero, suc, ◌+◌, cond, List, [], ◌∷◌, Some, None, Option}
use Rattle.kinds.specs.Kinds.{Kind}
use Rattle.runs.specs.Benches.{Bench, offer, settled}
use Rattle.runs.specs.Events.{took, effect}
use Rattle.runs.specs.Choices.{chosen}
use Rattle.runs.specs.Left.{left}
use Rattle.runs.specs.Refusals.{Refusal}
use Rattle.runs.specs.Calls.{Call, take, perform, hand_back, look, work_off, close, sheet, Answer, refused, turn, done, fault, returned, entry, going, closed, written}
use Rattle.runs.specs.Tests.{refusal}
use Rattle.runs.specs.Answers.{step_answer, turned, answer}

unfoldable pub is_done : Answer → ℕ
is_done (refused n) = 0
is_done (turn t) = 0
is_done done = 1
is_done (fault f l) = 0
is_done returned = 0
is_done (entry e) = 0
is_done (going g) = 0
is_done (closed z) = 0
is_done (written n) = 0

unfoldable pub turned_done : Kind → (List ℕ → ℕ) → Bench → ℕ
turned_done k f b = is_done (step_answer k (chosen f (offer b)) (effect k (took (chosen f (offer b))) b))

unfoldable pub worked_off_done : Kind → ℕ → (ℕ → List ℕ → ℕ) → Bench → ℕ
worked_off_done k zero fs b = 0
worked_off_done k (suc n) fs b = cond (settled b) 0 (turned_done k (fs 0) b + worked_off_done k n (λ i. fs (suc i)) (turned k (fs 0) b))

-- in a granted call
unfoldable pub granted_done : Kind → Call → Bench → ℕ
granted_done k (take g f) b = 0
granted_done k (perform t) b = is_done (step_answer k t.task b)
granted_done k (hand_back t) b = 0
granted_done k (look o i) b = 0
granted_done k (work_off g fs) b = worked_off_done k (left b.line) fs b
granted_done k (close g) b = 0
granted_done k (sheet z buffer) b = 0

unfoldable pub unless_refused : Option Refusal → ℕ → ℕ
unless_refused None n = n
unless_refused (Some r) n = 0

unfoldable pub calls_done : Kind → List Call → Bench → ℕ
calls_done k [] b = 0
calls_done k (x ∷ xs) b = unless_refused (refusal k x b) (granted_done k x b) + calls_done k xs (answer k x b).1
