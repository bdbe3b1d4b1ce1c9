-- How a bench changes: a task gets another status, a task makes a step, the bench is closed.
use Rattle.std.specs.Prelude.{ℕ, suc, ◌+◌, true, List, [], ◌∷◌}
use Rattle.std.specs.Option.{option_map_or}
use Rattle.kinds.specs.Kinds.{Kind}
use Rattle.working.specs.Requests.{Next, leaves, goes, makes, request, stored, Reply, faulted, stepped, reply}
use Rattle.working.specs.Serial.{made_by}
use Rattle.runs.specs.Lines.{Status, waiting, stuck, Member, member, with_status, find, replace}
use Rattle.runs.specs.Benches.{Bench, bench}

-- s in another status
unfoldable pub marked : Bench → Member → Status → Bench
marked b s u = bench b.run b.store (replace s.number (with_status s u ∷ []) b.line) b.made b.steps b.closed

-- what stands in the place of task n after a step: a child gets the number c and stands before its maker
unfoldable pub members : ℕ → ℕ → Next → List Member
members n c leaves = []
members n c (goes t) = member n waiting t ∷ []
members n c (makes u t) = member c waiting u ∷ member n waiting t ∷ []

-- a step of s, by what comes of its request: the task is stuck and nothing else changes, or the step is done and counted
unfoldable pub after_reply : Kind → Bench → Member → Reply → Bench
after_reply k b s (faulted f l) = marked b s (stuck f l)
after_reply k b s (stepped x) =
    bench b.run (stored k b.store (request k s.task)) (replace s.number (members s.number b.made x) b.line) (b.made + made_by x) (suc b.steps) b.closed

unfoldable pub replied : Kind → Bench → Member → Reply
replied k b s = reply b.store (request k s.task)

unfoldable pub step : Kind → Bench → Member → Bench
step k b s = after_reply k b s (replied k b s)

-- the same by task number
unfoldable pub put : ℕ → Status → Bench → Bench
put n u b = option_map_or (λ s. marked b s u) (find n b.line) b

unfoldable pub advanced : Kind → ℕ → Bench → Bench
advanced k n b = option_map_or (step k b) (find n b.line) b

unfoldable pub shut : Bench → Bench
shut b = bench b.run b.store b.line b.made b.steps true
