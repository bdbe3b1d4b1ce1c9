use Rattle.std.proofs.Common.{◌≡◌, ℕ, zero, suc, ◌-◌, ◌≤◌, refl, ap, ◌∙◌, arith}
use Rattle.cards.specs.Code.{Block, next, Statement, ◌before◌, end}
use Rattle.cards.specs.Bounds.{task_bound}
use Rattle.working.specs.declared.frame.Frame.TheVariants.{Again}
use Rattle.cards.specs.Trees.{block_of}
use Rattle.working.specs.Frames.{stack}
use Rattle.working.specs.Works.{after_rounds}
use Rattle.working.proofs.Stacks.{stack_push, deepest_push, task_bound_rest, task_bound_round}
use Rattle.working.proofs.work.Work.round.Goals as goal

-- one round of some
some_rounds : (l k : ℕ) (x b : Block) → (k ≡ 0 → ⊥) → x before next l (Statement.repeat (k - 1) x) b ≡ after_rounds l k x b
some_rounds l zero x b h = absurd (h refl)
some_rounds l (suc k) x b h = ap (λ (m : ℕ). x before next l (Statement.repeat m x) b) (omega arith)

fewer : (l k : ℕ) (x b : Block) → (k ≡ 0 → ⊥) → task_bound (x before next l (Statement.repeat (k - 1) x) b) ≤ task_bound (next l (Statement.repeat k x) b)
fewer l zero x b h = absurd (h refl)
fewer l (suc k) x b h = let e : suc k - 1 ≡ k = omega arith in omega (arith, task_bound_round l k x b, ap (λ (m : ℕ). task_bound (x before next l (Statement.repeat m x) b)) e)

pub invariant_of-self : goal.invariant_of-self
invariant_of-self c =
    let w = c.args.self.now in
    let q = c.args.rounds in
    let r = block_of q.rest.now before stack w.frames.items end in
    record {
      fits = omega (arith, c.requires.fits);
      frames_fit = w.frames_fit;
      room = w.room;
      few = omega (arith, c.requires.few, task_bound_rest q.line q.left (block_of q.body.now) r);
    }

pub invariant_of-self-else-rounds-eq0 : goal.invariant_of-self-else-rounds-eq0
invariant_of-self-else-rounds-eq0 c =
    let w = c.args.self.now in
    let q = c.args.rounds in
    let p = c.push_reserved.ensures in
    let f = Again record q { left = q.left - 1 } in
    let x = block_of q.body.now in
    let r = block_of q.rest.now before stack w.frames.items end in
    record {
      fits = omega (arith, c.requires.fits, p.len);
      frames_fit = deepest_push _ w.frames.items f p.items w.place.depth w.frames.len w.frames.ok.0 w.frames_fit c.requires.fits;
      room = omega (arith, p.capacity, w.room);
      few = omega (arith, c.requires.few, ap (λ (b : Block). task_bound (x before b)) (stack_push _ w.frames.items f p.items end), fewer q.line q.left x r (λ e. omega arith));
    }

pub returns-else-rounds-eq0-clause-work : goal.returns-else-rounds-eq0-clause-work
returns-else-rounds-eq0-clause-work c =
    let w = c.args.self.now in
    let q = c.args.rounds in
    let f = Again record q { left = q.left - 1 } in
    let x = block_of q.body.now in
    let r = block_of q.rest.now before stack w.frames.items end in
    ap (λ (b : Block). x before b) (stack_push _ w.frames.items f c.push_reserved.ensures.items end) ∙ some_rounds q.line q.left x r (λ e. omega arith)
