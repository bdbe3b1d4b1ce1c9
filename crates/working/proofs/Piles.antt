-- One step of serial working over a pile.
use Rattle.std.proofs.Common.{◌≡◌, ℕ, suc, ◌+◌, ◌<◌, ◌≤◌, List, [], ◌∷◌, ◌++◌, length, sym, refl, ap, ◌∙◌, subst, arith, Ok, Err}
use Rattle.kinds.specs.Kinds.{Kind}
use Rattle.cards.specs.Bounds.{step_bound}
use Rattle.working.specs.Tasks as Tasks
use Rattle.working.specs.Requests.{Next, leaves, goes, makes, request, stored, stepped, reply}
use Rattle.working.specs.Serial.{Result, result, words, fault, segment, made_by, Serial, done, stop, more}
use Rattle.working.specs.declared.fault.Fault.{Fault}
use Rattle.working.specs.declared.record.Record.{Record}
use Rattle.working.specs.declared.work.Fresh.{Fresh}
use Rattle.working.specs.declared.step.Stepped.TheVariants.{Went, Amended, Finished, Made}
use Rattle.working.specs.declared.task.Task.{Task}
use Rattle.working.specs.Works.{ranks_of, work_of}
use Rattle.working.specs.Steps.{model_of, fresh_task, Answered}
use Rattle.working.specs.Piles.{piled}
use Rattle.working.proofs.Fine.{total_steps, total_tasks}
use Rattle.working.proofs.Serials.{falls, makes_fewer}

-- the tasks on hand, the top first
abbrev pub line_of : Task → List Task → List Tasks.Task
line_of t ts = model_of t ∷ piled ts []

-- every record of the pile has at most n objects
unfoldable pub Small : ℕ → List Task → Type 0
Small n [] = Unit {0}
Small n (t ∷ ts) = (t.own.objects ≤ n) × Small n ts

pub small_last : (n : ℕ) (ts : List Task) (t : Task) → Small n ts → t.own.objects ≤ n → Small n (ts ++ t ∷ [])
unfolding Small
small_last n [] t s h = (h, tt)
small_last n (x ∷ ts) t s h = (s.0, small_last n ts t s.1 h)

pub small_pop : (n : ℕ) (ts : List Task) (t : Task) → Small n (ts ++ t ∷ []) → Small n ts × (t.own.objects ≤ n)
unfolding Small
small_pop n [] t s = (tt, s.0)
small_pop n (x ∷ ts) t s = let h = small_pop n ts t s.1 in ((s.0, h.0), h.1)

pub small_none : (n : ℕ) (ts : List Task) → ts ≡ [] → Small n ts
unfolding Small
small_none n ts e = subst (Small n) (sym e) tt

piled_last : (ts : List Task) (t : Task) (below : List Tasks.Task) → piled (ts ++ t ∷ []) below ≡ model_of t ∷ piled ts below
unfolding piled
piled_last [] t below = refl
piled_last (x ∷ ts) t below = piled_last ts t (model_of x ∷ below)

piled_none : (ts : List Task) → ts ≡ [] → piled ts [] ≡ []
unfolding piled
piled_none ts e = ap (λ (l : List Task). piled l []) e

-- what a step leaves: line' after x
pub record Advances (k : Kind) (m : List ℕ) (line : List Tasks.Task) (m' : List ℕ) (line' : List Tasks.Task) (x : Next) : Type 0 where
  pub carries : (n c : ℕ) (q : Result) → Serial k m' line' (n + 1) (c + made_by x) q → Serial k m line n c q
  pub falls : total_steps line' < total_steps line
  pub counts : made_by x + total_tasks line' ≤ total_tasks line

advance : (k : Kind) (m m' : List ℕ) (t : Tasks.Task) (ts line' : List Tasks.Task) (x : Next) → reply m (request k t) ≡ stepped x → m' ≡ stored k m (request k t) → line' ≡ segment x ++ ts → Advances k m (t ∷ ts) m' line' x
advance k m m' t ts line' x e f h =
    record {
      carries = λ n c q s. more e (subst (λ (y : List ℕ). Serial k y (segment x ++ ts) (suc n) (c + made_by x) q) f (subst (λ (y : List Tasks.Task). Serial k m' y (suc n) (c + made_by x) q) h (subst (λ (y : ℕ). Serial k m' line' y (c + made_by x) q) (omega arith) s)));
      falls = omega (arith, ap total_steps h, falls k m t ts x e);
      counts = omega (arith, ap total_tasks h, makes_fewer k m t ts x e);
    }

module _ (k : Kind) (m m' : List ℕ) (t t' : Task) (ts : List Task) where
  pub went : Answered k t m (Ok Went) t' m' → Advances k m (line_of t ts) m' (line_of t' ts) (goes (model_of t'))
  unfolding Answered segment
  went a = advance k m m' (model_of t) (piled ts []) (line_of t' ts) (goes (model_of t')) a.0 a.1 refl

  pub amended : Answered k t m (Ok Amended) t' m' → Advances k m (line_of t ts) m' (line_of t' ts) (goes (model_of t'))
  unfolding Answered
  amended a = went a

  -- the one below goes on
  pub finished : (us : List Task) (u : Task) → ts ≡ us ++ u ∷ [] → Answered k t m (Ok Finished) t' m' → Advances k m (line_of t ts) m' (line_of u us) leaves
  unfolding Answered segment
  finished us u e a = advance k m m' (model_of t) (piled ts []) (line_of u us) leaves a.0 a.1 (sym (ap (λ (l : List Task). piled l []) e ∙ piled_last us u []))

  pub all_finished : ts ≡ [] → (n c : ℕ) → Answered k t m (Ok Finished) t' m' → Serial k m (line_of t ts) n c (result (words m') (n + 1) c)
  unfolding Answered segment made_by
  all_finished e n c a =
      let h = advance k m m' (model_of t) (piled ts []) [] leaves a.0 a.1 (sym (piled_none ts e)) in
      h.carries n c (result (words m') (n + 1) c) (subst (λ (y : ℕ). Serial k m' [] (n + 1) y (result (words m') (n + 1) c)) (omega arith) done)

  pub faults : (f : Fault) (n c : ℕ) → Answered k t m (Err f) t' m' → Serial k m (line_of t ts) n c (result (fault f.kind f.line (ranks_of t'.work.place)) n c)
  unfolding Answered
  faults f n c a = subst (λ (p : List ℕ). Serial k m (line_of t ts) n c (result (fault f.kind f.line p) n c)) (sym (ap (λ (y : Tasks.Task). y.place) a.1)) (stop a.0)

  -- the child v begins, and its maker waits on top of the pile
  pub made : (u : Record) (f : Fresh) (v w : Task) (us : List Task) → Answered k t m (Ok (Made u f)) t' m' → model_of v ≡ fresh_task u f → us ≡ ts ++ w ∷ [] → w ≡ t' → Advances k m (line_of t ts) m' (line_of v us) (makes (fresh_task u f) (model_of t'))
  unfolding Answered segment
  made u f v w us a h e d =
      advance k m m' (model_of t) (piled ts []) (line_of v us) (makes (fresh_task u f) (model_of t')) a.0 a.1
      (ap (λ (l : List Task). model_of v ∷ piled l []) e ∙ ap (λ (l : List Tasks.Task). model_of v ∷ l) (piled_last ts w []) ∙ ap (λ (y : Task). model_of v ∷ model_of y ∷ piled ts []) d ∙ ap (λ (y : Tasks.Task). y ∷ model_of t' ∷ piled ts []) h)

-- The loop, from words m₀ and task t₀: every outcome from here is one from the start, and the bounds are kept.
pub record Working (k : Kind) (m₀ : List ℕ) (t₀ : Task) (m : List ℕ) (t : Task) (ts : List Task) (n c : ℕ) : Type 0 where
  pub carries : (q : Result) → Serial k m (line_of t ts) n c q → Serial k m₀ (model_of t₀ ∷ []) 0 1 q
  pub steps : n + total_steps (line_of t ts) ≤ 1000000
  pub tasks : c + total_tasks (line_of t ts) ≤ 64
  pub objects : t.own.objects ≤ length m₀
  pub small : Small (length m₀) ts

pub working_none : {k : Kind} {m : List ℕ} {t : Task} {ts : List Task} → ts ≡ [] → t.own.objects ≤ length m → step_bound (work_of t.work) + 1 ≤ 1000000 → Working k m t m t ts 0 1
unfolding total_steps total_tasks
working_none {k = k} {m = m} {t = t} {ts = ts} e o s =
    let p = piled_none ts e in
    record {
      carries = λ q h. subst (λ (l : List Tasks.Task). Serial k m (model_of t ∷ l) 0 1 q) p h;
      steps = omega (arith, ap total_steps p, s);
      tasks = omega (arith, ap total_tasks p, t.work.few);
      objects = o;
      small = small_none _ ts e;
    }

pub working_more : {k : Kind} {m₀ m m' : List ℕ} {t₀ t t' : Task} {ts ts' : List Task} {n c c' : ℕ} {x : Next} → Working k m₀ t₀ m t ts n c → Advances k m (line_of t ts) m' (line_of t' ts') x → c' ≡ c + made_by x → t'.own.objects ≤ length m₀ → Small (length m₀) ts' → Working k m₀ t₀ m' t' ts' (n + 1) c'
working_more {k = k} {m' = m'} {t' = t'} {ts' = ts'} {n = n} {c = c} i a e o s =
    record {
      carries = λ q h. i.carries q (a.carries n c q (subst (λ (y : ℕ). Serial k m' (line_of t' ts') (n + 1) y q) e h));
      steps = omega (arith, i.steps, a.falls);
      tasks = omega (arith, i.tasks, a.counts);
      objects = o;
      small = s;
    }
