use Rattle.std.proofs.Common.{get_or, ap, arith, length}
use Rattle.lines.specs.Stored.{queues_of}
use Rattle.lines.specs.Changes.{left}
use Rattle.lines.proofs.Rounds.{changed_back, queue_more, left_past}
use Rattle.lines.proofs.queues.leave_all.Goals as goal

pub loop-queue-preserved : goal.loop-queue-preserved
loop-queue-preserved c =
    queue_more (λ k. left c.args.n) (queues_of c.deref_mut-queue-items.result.now) c.loop-queue.queue-index c.loop-queue.queue-items c.leave.new.self (get_or c.loop-queue.queue-items c.loop-queue.queue-index c.queue-item.result)
    (omega (arith, c.loop-queue.auto.queue-items)) (ap (get_or c.loop-queue.queue-items c.loop-queue.queue-index) c.queue-item.is) c.leave.ensures c.loop-queue.invariant

pub returns-clause-items : goal.returns-clause-items
returns-clause-items c =
    let v = c.args.queues.now in
    let e = c.deref_mut-queue-items.ensures.value in
    changed_back (λ k. left c.args.n) (queues_of c.deref_mut-queue-items.result.now) v c.loop-queue.queue-items c.loop-queue.queue-index (ap queues_of e) (omega (arith, c.loop-queue.auto.queue-items, ap length e)) (omega (arith, ap length e)) (λ k ge. left_past c.args.n) c.loop-queue.invariant
