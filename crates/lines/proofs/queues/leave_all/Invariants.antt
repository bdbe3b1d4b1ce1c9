use Rattle.lines.specs.Stored.{queues_of}
use Rattle.lines.specs.Changes.{left}
use Rattle.lines.proofs.Rounds.{ChangedTo}
use Rattle.lines.proofs.queues.leave_all.Given as goal

abbrev pub invariant-loop-queue : goal.invariant-loop-queue
invariant-loop-queue l = ChangedTo (λ k. left l.n) (queues_of l.initial.queue-items) l.queue-index (queues_of l.queue-items)
