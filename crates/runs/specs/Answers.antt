-- What each call answers, and what it leaves.
use Rattle.std.specs.Prelude.{ℕ, zero, suc, cond, List, [], ◌∷◌, ◌++◌, length, drop, Some, None, Option, slice_get}
use Rattle.std.specs.Option.{option_map_or}
use Rattle.kinds.specs.Kinds.{Kind}
use Rattle.working.specs.Requests.{Reply, faulted, stepped}
use Rattle.runs.specs.Lines.{find}
use Rattle.runs.specs.Queues.{queue}
use Rattle.runs.specs.Benches.{Bench, offer, settled}
use Rattle.runs.specs.Steps.{replied}
use Rattle.runs.specs.Events.{Event, took, performed, handed_back, effect}
use Rattle.runs.specs.Choices.{chosen}
use Rattle.runs.specs.Left.{left}
use Rattle.runs.specs.BenchSheets.{bench_sheet}
use Rattle.runs.specs.Refusals.{Refusal, Foreign}
use Rattle.runs.specs.Calls.{Closed, closed_state, turn_of, Call, take, perform, hand_back, look, work_off, close, sheet, Answer, refused, turn, done, fault, returned, entry, going, closed, written}
use Rattle.runs.specs.Tests.{refusal}

unfoldable pub reply_answer : Reply → Answer
reply_answer (faulted f l) = fault f l
reply_answer (stepped x) = done

-- what a step of task n answers
unfoldable pub step_answer : Kind → ℕ → Bench → Answer
step_answer k n b = option_map_or (λ s. reply_answer (replied k b s)) (find n b.line) (refused Foreign)

-- the turn of the task that f chooses is taken and performed
unfoldable pub turned : Kind → (List ℕ → ℕ) → Bench → Bench
turned k f b = effect k (performed (chosen f (offer b))) (effect k (took (chosen f (offer b))) b)

-- takes and performs until the bench is settled, at most so many times
unfoldable pub worked_off : Kind → ℕ → (ℕ → List ℕ → ℕ) → Bench → Bench
worked_off k zero fs b = b
worked_off k (suc n) fs b = cond (settled b) b (worked_off k n (λ i. fs (suc i)) (turned k (fs 0) b))

-- the text at the front of a buffer, with the later bytes as they were
unfoldable pub write_out : List ℕ → List ℕ → Answer × List ℕ
write_out text buffer = (written (length text), text ++ drop (length text) buffer)

-- a granted call; as many turns as there are steps to make are enough for a work-off
unfoldable pub granted : Kind → Call → Bench → Answer × Bench
granted k (take g f) b = (turn (turn_of b.run (chosen f (offer b))), effect k (took (chosen f (offer b))) b)
granted k (perform t) b = (step_answer k t.task b, effect k (performed t.task) b)
granted k (hand_back t) b = (returned, effect k (handed_back t.task) b)
granted k (look o i) b = (entry (slice_get (queue o b.line) i), b)
granted k (work_off g fs) b = (going g, worked_off k (left b.line) fs b)
granted k (close g) b = (closed (closed_state b.run), effect k Event.closed b)
granted k (sheet z buffer) b = ((write_out (bench_sheet k b) buffer).0, b)

-- a refused call leaves x as it is
unfoldable pub answered : {X : Type 0} → Option Refusal → X → Answer × X → Answer × X
answered None x r = r
answered (Some n) x r = (refused n, x)

unfoldable pub answer : Kind → Call → Bench → Answer × Bench
answer k x b = answered (refusal k x b) b (granted k x b)

-- the sheet call, with the buffer afterwards
unfoldable pub sheet_call : Kind → Closed → List ℕ → Bench → Answer × List ℕ
sheet_call k z buffer b = answered (refusal k (sheet z buffer) b) buffer (write_out (bench_sheet k b) buffer)

-- the bench after a list of calls
unfoldable pub after_calls : Kind → List Call → Bench → Bench
after_calls k [] b = b
after_calls k (x ∷ xs) b = after_calls k xs (answer k x b).1
