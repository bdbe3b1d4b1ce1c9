-- Room for tasks.
use Rattle.std.proofs.Common.{◌≡◌, ℕ, suc, ◌+◌, ◌<◌, ◌≤◌, List, [], ◌∷◌, ◌++◌, get_or, set, replicate, Some, Result, Ok, Err, sym, ap, ◌∙◌, arith}
use Rattle.std.specs.List.{slice_get}
use Rattle.std.specs.Option.{option_map}
use Rattle.std.proofs.Math.Seq.{map-set_same}
use Rattle.std.proofs.lemmas.List.{get_or-replicate, map_push, replicate_more}
use Rattle.std.proofs.lemmas.List.Sums.{sum_by-set, sum_by_push}
use Rattle.std.proofs.lemmas.Option.{slice_get-map, slice_get_within, get_or_from_slice_get}
use Rattle.kinds.specs.Kinds.{Kind}
use Rattle.cards.specs.Bounds.{task_bound}
use Rattle.cards.specs.Trees.{block_of}
use Rattle.working.specs.declared.task.Task.{Task}
use Rattle.working.specs.declared.fault.Fault.{Fault}
use Rattle.working.specs.declared.step.Stepped.{Stepped}
use Rattle.working.specs.declared.step.Stepped.TheVariants.{Went, Amended, Finished, Made}
use Rattle.working.specs.Tasks as Tasks
use Rattle.working.specs.Requests.{goes, makes}
use Rattle.working.specs.Serial.{segment, made_by}
use Rattle.working.specs.Steps.{model_of, fresh_task, Answered}
use Rattle.working.proofs.Fine.{total_tasks, fine_reply}
use Rattle.tasks.specs.Rooms.{bound, to_make, sizes}

pub to_make_set : (ts : List Task) (i : ℕ) (t t' : Task) → slice_get ts i ≡ Some t → to_make (set ts i t') + bound t ≡ to_make ts + bound t'
unfolding to_make
to_make_set ts i t t' e = omega (arith, sum_by-set bound ts i t' t (slice_get_within ts i t e), ap bound (get_or_from_slice_get ts i t t e))

pub to_make_push : (ts : List Task) (t : Task) → to_make (ts ++ t ∷ []) ≡ to_make ts + bound t
unfolding to_make
to_make_push ts t = sum_by_push bound ts t

-- a child and the tasks that it can make
abbrev pub child_tasks : Result Stepped Fault → ℕ
child_tasks (Err f) = 0
child_tasks (Ok Went) = 0
child_tasks (Ok Amended) = 0
child_tasks (Ok Finished) = 0
child_tasks (Ok (Made u f)) = suc (task_bound (block_of f.body.now))

-- a step's child and what is left can make no more tasks than the task could
pub step_makes : (k : Kind) (t t' : Task) (m m' : List ℕ) (a : Result Stepped Fault) → Answered k t m a t' m' → child_tasks a + bound t' ≤ bound t
unfolding Answered segment made_by total_tasks
step_makes k t t' m m' (Err f) h = omega (arith, ap (λ (x : Tasks.Task). task_bound x.work) h.1)
step_makes k t t' m m' (Ok Went) h = omega (arith, (fine_reply k m (model_of t) (goes (model_of t')) h.0).counts)
step_makes k t t' m m' (Ok Amended) h = omega (arith, (fine_reply k m (model_of t) (goes (model_of t')) h.0).counts)
step_makes k t t' m m' (Ok Finished) h = omega (arith, ap (λ (x : Tasks.Task). task_bound x.work) h.2)
step_makes k t t' m m' (Ok (Made u f)) h = omega (arith, (fine_reply k m (model_of t) (makes (fresh_task u f) (model_of t')) h.0).counts)

pub sizes_set : (ts : List Task) (i : ℕ) (t t' : Task) → slice_get ts i ≡ Some t → t'.own.objects ≡ t.own.objects → sizes (set ts i t') ≡ sizes ts
unfolding sizes
sizes_set ts i t t' e h = map-set_same (λ (x : Task). x.own.objects) ts i t' t (h ∙ ap (λ (x : Task). x.own.objects) (sym (get_or_from_slice_get ts i t t e)))

pub sizes_push : (ts : List Task) (t : Task) (n o : ℕ) → sizes ts ≡ replicate n o → t.own.objects ≡ o → sizes (ts ++ t ∷ []) ≡ replicate (n + 1) o
unfolding sizes
sizes_push ts t n o e h = map_push (λ (x : Task). x.own.objects) ts t ∙ ap (λ (l : List ℕ). l ++ t.own.objects ∷ []) e ∙ ap (λ (x : ℕ). replicate n o ++ x ∷ []) h ∙ replicate_more n o

pub sizes_at : (ts : List Task) (i : ℕ) (t : Task) (n o : ℕ) → slice_get ts i ≡ Some t → i < n → sizes ts ≡ replicate n o → t.own.objects ≡ o
unfolding sizes
sizes_at ts i t n o e h s =
    let p : slice_get (sizes ts) i ≡ Some t.own.objects = slice_get-map (λ (x : Task). x.own.objects) ts i ∙ ap (option_map (λ (x : Task). x.own.objects)) e in
    sym (get_or_from_slice_get (sizes ts) i t.own.objects 0 p) ∙ ap (λ (l : List ℕ). get_or l i 0) s ∙ get_or-replicate n i o 0 h
