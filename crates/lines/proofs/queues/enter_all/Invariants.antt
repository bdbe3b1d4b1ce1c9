use Rattle.std.proofs.Common.{get_or}
use Rattle.working.specs.Tasks.{nothing}
use Rattle.lines.specs.Stored.{queues_of}
use Rattle.lines.specs.Changes.{entered}
use Rattle.lines.proofs.Rounds.{ChangedTo}
use Rattle.lines.proofs.queues.enter_all.Given as goal

abbrev pub invariant-loop-o : goal.invariant-loop-o
invariant-loop-o l = ChangedTo (λ k. entered l.maker l.child (get_or l.ds k nothing)) (queues_of l.initial.queue-items) l.o (queues_of l.queue-items)
