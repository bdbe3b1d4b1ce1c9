use Rattle.std.proofs.Common.{[], arith}
use Rattle.cards.specs.Code.{◌before◌, end}
use Rattle.cards.specs.Trees.{block_of}
use Rattle.working.specs.Frames.{stack}
use Rattle.working.proofs.Stacks.{task_bound_task}
use Rattle.working.proofs.work.Work.spawn.Goals as goal

pub invariant_of-self : goal.invariant_of-self
invariant_of-self c =
    let w = c.args.self.now in
    let x = block_of c.args.body.now in
    let r = block_of c.args.rest.now before stack w.frames.items end in
    record {
      fits = c.requires.rest;
      frames_fit = w.frames_fit;
      room = w.room;
      few = omega (arith, c.requires.few, task_bound_task 0 x r []);
    }

pub invariant_of-result : goal.invariant_of-result
invariant_of-result c =
    let w = c.args.self.now in
    let x = block_of c.args.body.now in
    let r = block_of c.args.rest.now before stack w.frames.items end in
    record {
      fits = omega (arith, c.requires.body, c.child.ensures.depth);
      few = omega (arith, c.requires.few, task_bound_task 0 x r mathlib.Core.List.[]);
    }
