-- Frames, of which the last is the first to be worked.
use Rattle.std.proofs.Common.{◌≡◌, ℕ, suc, ◌+◌, ◌≤◌, max, List, [], ◌∷◌, ◌++◌, length, sym, refl, ap, ◌∙◌, suc-mul, arith}
use Rattle.cards.specs.Code.{Block, end, next, Statement, ◌before◌}
use Rattle.cards.specs.Bounds.{task_bound, depth}
use Rattle.working.specs.declared.frame.Frame.{Frame}
use Rattle.working.specs.declared.frame.Frame.TheVariants.{After, Again}
use Rattle.cards.specs.Trees.{block_of}
use Rattle.working.specs.Frames.{frame_block, frame_depth, stack, deepest}
use Rattle.working.proofs.Fine.{task_bound_before}

pub stack_last : (fs : List Frame) (f : Frame) (b : Block) → stack (fs ++ f ∷ []) b ≡ frame_block f (stack fs b)
unfolding stack
stack_last [] f b = refl
stack_last (x ∷ fs) f b = stack_last fs f (frame_block x b)

pub stack_none : (b : Block) → stack [] b ≡ b
unfolding stack
stack_none b = refl

pub deepest_none : (n : ℕ) → deepest n [] ≡ 0
unfolding deepest
deepest_none n = refl

pub deepest_last : (n : ℕ) (fs : List Frame) (f : Frame) → deepest n (fs ++ f ∷ []) ≡ max (deepest n fs) (n + (length fs + frame_depth f))
unfolding deepest
deepest_last n [] f = omega arith
deepest_last n (x ∷ fs) f = let h = deepest_last (suc n) fs f in omega arith

pub before_end : (b : Block) → b before end ≡ b
unfolding ◌before◌
before_end end = refl
before_end (next l s b) = ap (next l s) (before_end b)

-- one round less
pub task_bound_round : (l k : ℕ) (x b : Block) → task_bound (next l (Statement.repeat (suc k) x) b) ≡ task_bound (x before next l (Statement.repeat k x) b)
unfolding task_bound
task_bound_round l k x b = let h = task_bound_before x (next l (Statement.repeat k x) b) in let e = suc-mul k (task_bound x) in omega arith

pub task_bound_rest : (l k : ℕ) (x b : Block) → task_bound b ≤ task_bound (next l (Statement.repeat k x) b)
unfolding task_bound
task_bound_rest l k x b = omega arith

pub task_bound_task : (l : ℕ) (x b : Block) (ds : List _) → task_bound (next l (Statement.task ds x) b) ≡ suc (task_bound x + task_bound b)
unfolding task_bound
task_bound_task l x b ds = omega arith

-- gs is fs and f on top of it; n is the number of frames of fs
module _ (gs fs : List Frame) (f : Frame) (pushed : gs ≡ fs ++ f ∷ []) where
  pub stack_push : (b : Block) → stack gs b ≡ frame_block f (stack fs b)
  stack_push b = ap (λ (l : List Frame). stack l b) pushed ∙ stack_last fs f b

  deepest_is : (d n : ℕ) → n ≡ length fs → deepest d gs ≡ max (deepest d fs) (d + (n + frame_depth f))
  deepest_is d n e = ap (deepest d) pushed ∙ deepest_last d fs f ∙ ap (λ (m : ℕ). max (deepest d fs) (d + (m + frame_depth f))) (sym e)

  pub deepest_push : (d n : ℕ) → n ≡ length fs → deepest d fs ≤ 8 → d + (n + frame_depth f) ≤ 8 → deepest d gs ≤ 8
  deepest_push d n e p q = omega (arith, deepest_is d n e)

  pub deepest_pop : (d n : ℕ) → n ≡ length fs → deepest d gs ≤ 8 → (deepest d fs ≤ 8) × (d + (n + frame_depth f) ≤ 8)
  deepest_pop d n e p = (omega (arith, deepest_is d n e), omega (arith, deepest_is d n e))

pub past_end : (x b : Block) → x ≡ end → x before b ≡ b
unfolding ◌before◌
past_end x b e = ap (λ (y : Block). y before b) e

-- an empty block, and the frame on top
pub popped : (x : Block) (gs fs : List Frame) (f : Frame) → x ≡ end → gs ≡ fs ++ f ∷ [] → x before stack gs end ≡ frame_block f (stack fs end)
popped x gs fs f e p = past_end x (stack gs end) e ∙ stack_push gs fs f p end

pub all_past : (x : Block) (fs : List Frame) → x ≡ end → fs ≡ [] → x before stack fs end ≡ end
all_past x fs e p = past_end x (stack fs end) e ∙ ap (λ (l : List Frame). stack l end) p ∙ stack_none end

pub task_bound_end : (x b : Block) → x ≡ end → task_bound (x before b) ≡ task_bound b
task_bound_end x b e = ap task_bound (past_end x b e)

pub depth_end : (x : Block) → x ≡ end → depth x ≡ 0
unfolding depth
depth_end x e = ap depth e

pub task_bound_frame : (f : Frame) (b : Block) → task_bound b ≤ task_bound (frame_block f b)
unfolding task_bound
task_bound_frame (After r) b = omega (arith, task_bound_before (block_of r.now) b)
task_bound_frame (Again q) b = omega (arith, task_bound_before (block_of q.rest.now) b)
