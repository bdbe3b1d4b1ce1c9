-- Each step leaves less to do.
use Rattle.std.proofs.Common.{◌≡◌, ℕ, ◌+◌, ◌<◌, List, [], ◌∷◌, ◌++◌, refl, ap, arith}
use Rattle.kinds.specs.Kinds.{Kind}
use Rattle.cards.specs.Bounds.{step_bound}
use Rattle.working.specs.Requests.{Next, leaves, goes, makes, request, Reply, faulted, stepped, reply}
use Rattle.working.specs.Serial.{segment}
use Rattle.runs.specs.Lines.{Status, out, stuck, Member, member, with_status, replace}
use Rattle.runs.specs.Benches.{Bench, bench}
use Rattle.runs.specs.Steps.{marked, members, after_reply, replied, step}
use Rattle.runs.specs.Left.{weight, left}
use Rattle.working.proofs.Fine.{total_steps, fine_reply}
use Rattle.runs.proofs.Lines.{Found}

left_append : (xs ys : List Member) → left (xs ++ ys) ≡ left xs + left ys
unfolding left
left_append [] ys = omega arith
left_append (x ∷ xs) ys = let h = left_append xs ys in omega arith

left_members : (n c : ℕ) (x : Next) → left (members n c x) ≡ total_steps (segment x)
unfolding left members member segment total_steps weight
left_members n c leaves = refl
left_members n c (goes t) = refl
left_members n c (makes u t) = refl

-- others in the place of s
left_replace : (s : Member) (line new : List Member) (f : Found s.number line s) → left (replace s.number new line) + weight s.status s.task ≡ left line + left new
unfolding left
left_replace s line new f =
    omega (arith, ap left (f.replaced new), ap left f.split, left_append f.before (new ++ f.behind), left_append new f.behind, left_append f.before (s ∷ f.behind))

-- whether the step is done or the task is stuck
pub step_falls : (k : Kind) (b : Bench) (s : Member) → Found s.number b.line s → s.status ≡ out → left (step k b s).line < left b.line
unfolding step replied after_reply bench marked with_status member left weight
step_falls k b s f o = go (reply b.store (request k s.task)) refl
  where
    own : weight s.status s.task ≡ step_bound s.task.work + 1
    own = ap (λ (u : Status). weight u s.task) o

    go : (p : Reply) → reply b.store (request k s.task) ≡ p → left (after_reply k b s p).line < left b.line
    go (faulted g l) e = omega (arith, own, left_replace s b.line (with_status s (stuck g l) ∷ []) f)
    go (stepped x) e = omega (arith, own, left_replace s b.line (members s.number b.made x) f, left_members s.number b.made x, (fine_reply k b.store s.task x e).spends)

-- a turn taken or handed back keeps it
pub marked_keeps : (b : Bench) (s : Member) (u : Status) → Found s.number b.line s → weight u s.task ≡ weight s.status s.task → left (marked b s u).line ≡ left b.line
unfolding marked bench with_status member left
marked_keeps b s u f e = omega (arith, left_replace s b.line (with_status s u ∷ []) f)
