use Rattle.std.proofs.Common.{◌≡◌, ℕ, ◌<◌, false, [], length, get_or}
use Rattle.runs.specs.Ready.{each}
use Rattle.lines.specs.Stored.{queues_of}
use Rattle.lines.specs.Clears.{at_first, clear_from}
use Rattle.lines.proofs.queues.refresh.Given as goal

abbrev pub invariant-loop-queue : goal.invariant-loop-queue
invariant-loop-queue l = (length l.clear ≡ 256) × ((n : ℕ) → n < 256 → get_or l.clear n false ≡ each l.queue-index (λ o. clear_from n at_first (get_or (queues_of l.queue-items) o [])))
