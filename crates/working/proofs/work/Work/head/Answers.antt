use Rattle.std.proofs.Common.{sym, ap, ◌∙◌, arith}
use Rattle.cards.specs.Code.{end}
use Rattle.cards.specs.Bounds.{task_bound}
use Rattle.std.proofs.lemmas.List.{nil_from_length}
use Rattle.working.specs.declared.frame.Frame.{Frame}
use Rattle.cards.specs.Trees.{block_of}
use Rattle.working.specs.Frames.{stack, frame_block, frame_depth}
use Rattle.working.proofs.Stacks.{popped, all_past, deepest_pop, task_bound_end, task_bound_frame, depth_end}
use Rattle.working.proofs.work.Work.head.Goals as goal

pub invariant_of-self-in-After : goal.invariant_of-self-in-After
invariant_of-self-in-After c =
    let w = c.loop-self.self in
    let v = c.pop.new.self in
    let p = c.in-Some.ensures in
    let f = c.in-Some.frame in
    let x = block_of w.at.now in
    let d = deepest_pop w.frames.items v.items f p.items w.place.depth v.len v.ok.0 w.frames_fit in
    let e = ap (λ (y : Frame). frame_depth y) c.in-After.is in
    let b = popped x w.frames.items v.items f (ap block_of c.in-End.is) p.items ∙ ap (λ (y : Frame). frame_block y (stack v.items end)) c.in-After.is in
    record {
      fits = omega (arith, d.1, e);
      frames_fit = d.0;
      room = omega (arith, p.capacity, w.room);
      few = omega (arith, w.few, ap task_bound b);
    }

pub loop-self-preserved : goal.loop-self-preserved
loop-self-preserved c =
    let w = c.loop-self.self in
    let v = c.pop.new.self in
    let p = c.in-Some.ensures in
    let f = c.in-Some.frame in
    let b = popped (block_of w.at.now) w.frames.items v.items f (ap block_of c.in-End.is) p.items ∙ ap (λ (y : Frame). frame_block y (stack v.items end)) c.in-After.is in
    (sym b ∙ c.loop-self.invariant.0, c.loop-self.invariant.1)

pub returns-in_default-clause-heads : goal.returns-in_default-clause-heads
returns-in_default-clause-heads c =
    let w = c.loop-self.self in
    let v = c.pop.new.self in
    let x = block_of w.at.now in
    let e = ap block_of c.in-End.is in
    let p = c.in_default.ensures in
    (sym c.loop-self.invariant.0 ∙ all_past x w.frames.items e (nil_from_length w.frames.items (sym w.frames.ok.0 ∙ p.cases.0)), all_past x v.items e (nil_from_length v.items (sym v.ok.0 ∙ p.cases.1)))

pub invariant_of-self-in-Again-1 : goal.invariant_of-self-in-Again-1
invariant_of-self-in-Again-1 c =
    let w = c.loop-self.self in
    let v = c.pop.new.self in
    let p = c.in-Some.ensures in
    let f = c.in-Some.frame in
    let x = block_of w.at.now in
    let d = deepest_pop w.frames.items v.items f p.items w.place.depth v.len v.ok.0 w.frames_fit in
    let b = popped x w.frames.items v.items f (ap block_of c.in-End.is) p.items in
    record {
      fits = omega (arith, d.1, depth_end x (ap block_of c.in-End.is));
      frames_fit = d.0;
      room = omega (arith, p.capacity, w.room);
      few = omega (arith, w.few, ap task_bound b, task_bound_frame f (stack v.items end), task_bound_end x (stack v.items end) (ap block_of c.in-End.is));
    }

pub returns-in-Again-clause-heads : goal.returns-in-Again-clause-heads
returns-in-Again-clause-heads c =
    let w = c.loop-self.self in
    let v = c.pop.new.self in
    let p = c.in-Some.ensures in
    let f = c.in-Some.frame in
    let d = deepest_pop w.frames.items v.items f p.items w.place.depth v.len v.ok.0 w.frames_fit in
    let e = ap (λ (y : Frame). frame_depth y) c.in-Again.is in
    let b = popped (block_of w.at.now) w.frames.items v.items f (ap block_of c.in-End.is) p.items ∙ ap (λ (y : Frame). frame_block y (stack v.items end)) c.in-Again.is in
    (sym c.loop-self.invariant.0 ∙ b, omega (arith, d.1, e), omega (arith, w.few, ap task_bound c.loop-self.invariant.0, c.loop-self.invariant.1.1))
