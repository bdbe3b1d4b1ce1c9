use Rattle.std.proofs.Common.{[], get_or, ap, arith, length}
use Rattle.working.specs.Tasks.{nothing}
use Rattle.lines.specs.Stored.{queues_of}
use Rattle.lines.specs.Changes.{entered}
use Rattle.lines.proofs.Rounds.{changed_back, queue_more, queue_short, entered_past}
use Rattle.lines.proofs.queues.enter_all.Goals as goal

pub enter-requires : goal.enter-requires
enter-requires c =
    queue_short (λ k. entered c.args.maker c.args.child (get_or c.args.ds.now k nothing)) (queues_of c.deref_mut-queue-items.result.now) c.loop-o.o c.loop-o.queue-items (get_or c.loop-o.queue-items c.loop-o.o c.queue-item.result) 64
    (omega (arith, c.loop-o.auto.queue-items)) (ap (get_or c.loop-o.queue-items c.loop-o.o) c.queue-item.is) c.loop-o.invariant (omega (arith, c.requires.room c.loop-o.o, ap (λ qs. length (get_or (queues_of qs) c.loop-o.o [])) c.deref_mut-queue-items.ensures.value))

pub loop-o-preserved : goal.loop-o-preserved
loop-o-preserved c =
    queue_more (λ k. entered c.args.maker c.args.child (get_or c.args.ds.now k nothing)) (queues_of c.deref_mut-queue-items.result.now) c.loop-o.o c.loop-o.queue-items c.enter.new.self (get_or c.loop-o.queue-items c.loop-o.o c.queue-item.result)
    (omega (arith, c.loop-o.auto.queue-items)) (ap (get_or c.loop-o.queue-items c.loop-o.o) c.queue-item.is) c.enter.ensures c.loop-o.invariant

pub returns-clause-items : goal.returns-clause-items
returns-clause-items c =
    let v = c.args.queues.now in
    let e = c.deref_mut-queue-items.ensures.value in
    changed_back (λ k. entered c.args.maker c.args.child (get_or c.args.ds.now k nothing)) (queues_of c.deref_mut-queue-items.result.now) v c.loop-o.queue-items c.loop-o.o (ap queues_of e) (omega (arith, c.loop-o.auto.queue-items, ap length e)) (omega (arith, ap length e)) (λ k ge. entered_past c.args.maker c.args.child k c.args.ds.now (omega (arith, c.requires.sized, v.ok.0))) c.loop-o.invariant
