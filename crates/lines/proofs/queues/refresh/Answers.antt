use Rattle.std.proofs.Common.{true, false, ◌&&◌, List, [], get_or, sym, refl, ap, ◌∙◌, arith}
use Rattle.std.proofs.lemmas.List.{get_or-replicate}
use Rattle.runs.specs.declared.entry.Entry.{Entry}
use Rattle.lines.specs.declared.queue.Queue.{Queue}
use Rattle.lines.specs.Stored.{queues_of}
use Rattle.lines.specs.Clears.{at_first, clear_from, clear_in}
use Rattle.lines.proofs.Stores.{getD_queues, each_none, each_more, clear_all}
use Rattle.lines.proofs.queues.refresh.Goals as goal

pub loop-queue-init : goal.loop-queue-init
loop-queue-init c = (refl, λ n lt. get_or-replicate 256 n true false lt ∙ sym (each_none (λ o. clear_from n at_first (get_or (queues_of c.deref-queue-items.result.now) o []))))

pub loop-queue-preserved : goal.loop-queue-preserved
loop-queue-preserved c =
    let i = c.loop-queue.queue-index in
    let q = c.queue-item.result in (
      c.pass.array_long,
      λ n lt. each_more (λ o. clear_from n at_first (get_or (queues_of c.deref-queue-items.result.now) o [])) i (get_or c.pass.new.clear n false) (get_or c.loop-queue.clear n false) (c.loop-queue.invariant.1 n lt)
          (c.pass.ensures n lt ∙ ap (λ (es : List Entry). clear_from n at_first es && get_or c.loop-queue.clear n false)
          (c.as_slice.ensures.value ∙ sym (getD_queues c.deref-queue-items.result.now i q c.loop-queue-test.true c.queue-item.is))),
    )

pub returns : goal.returns
returns c = λ n lt.
    clear_all c.deref-queue-items.result.now n c.loop-queue.queue-index (get_or c.loop-queue.clear n false) (omega (arith, c.loop-queue.auto.queue-index-end)) (c.loop-queue.invariant.1 n lt)
    ∙ ap (λ (qs : List Queue). clear_in (queues_of qs) n) c.deref-queue-items.ensures.value
