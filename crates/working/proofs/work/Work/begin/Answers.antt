use Rattle.std.proofs.Common.{◌≡◌, List, ap, ◌∙◌, arith}
use Rattle.cards.specs.Code.{Block, ◌before◌, end}
use Rattle.cards.specs.Bounds.{task_bound}
use Rattle.working.specs.declared.frame.Frame.{Frame}
use Rattle.cards.specs.Trees.{block_of}
use Rattle.working.specs.Frames.{stack, deepest}
use Rattle.working.proofs.Stacks.{stack_none, before_end, deepest_none}
use Rattle.working.proofs.work.Work.begin.Goals as goal

alone : (x : Block) (fs : List Frame) → fs ≡ mathlib.Core.List.[] → x before stack fs end ≡ x
alone x fs e = ap (λ (l : List Frame). x before stack l end) e ∙ ap (λ (b : Block). x before b) (stack_none end) ∙ before_end x

pub invariant_of-result : goal.invariant_of-result
invariant_of-result c =
    let d = c.args.fresh.place.depth in
    let fs = c.args.frames.frames.items in
    let x = block_of c.args.fresh.body.now in
    record {
      fits = omega (arith, c.args.fresh.fits, c.args.frames.none);
      frames_fit = omega (arith, ap (deepest d) c.args.frames.empty, deepest_none d);
      room = c.args.frames.room;
      few = omega (arith, c.args.fresh.few, ap task_bound (alone x fs c.args.frames.empty));
    }

pub returns-clause-work : goal.returns-clause-work
returns-clause-work c = alone (block_of c.args.fresh.body.now) c.args.frames.frames.items c.args.frames.empty
