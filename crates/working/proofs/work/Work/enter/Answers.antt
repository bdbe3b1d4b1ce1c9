use Rattle.std.proofs.Common.{ap, arith}
use Rattle.cards.specs.Code.{Block, ◌before◌, end}
use Rattle.cards.specs.Bounds.{task_bound}
use Rattle.working.specs.declared.frame.Frame.TheVariants.{After}
use Rattle.cards.specs.Trees.{block_of}
use Rattle.working.proofs.Stacks.{stack_push, deepest_push}
use Rattle.working.proofs.work.Work.enter.Goals as goal

pub invariant_of-self : goal.invariant_of-self
invariant_of-self c =
    let w = c.args.self.now in
    let p = c.push_reserved.ensures in
    let f = After c.args.rest in
    let x = block_of c.args.arm.now in
    record {
      fits = omega (arith, c.requires.arm, p.len);
      frames_fit = deepest_push _ w.frames.items f p.items w.place.depth w.frames.len w.frames.ok.0 w.frames_fit c.requires.rest;
      room = omega (arith, p.capacity, w.room);
      few = omega (arith, c.requires.few, ap (λ (b : Block). task_bound (x before b)) (stack_push _ w.frames.items f p.items end));
    }

pub returns-clause-work : goal.returns-clause-work
returns-clause-work c =
    let w = c.args.self.now in
    ap (λ (b : Block). block_of c.args.arm.now before b) (stack_push _ w.frames.items (After c.args.rest) c.push_reserved.ensures.items end)
