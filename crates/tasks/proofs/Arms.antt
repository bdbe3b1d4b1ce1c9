-- What a step answers and leaves, by how it moved its task.
use Rattle.std.proofs.Common.{◌≡◌, ℕ, List, [], ◌∷◌, ◌++◌, length, map, set, Some, Result, Ok, Err, vec_items, sym, refl, ap, ◌∙◌, subst}
use Rattle.std.specs.List.{slice_get}
use Rattle.std.proofs.lemmas.List.{length-set, map-set}
use Rattle.std.proofs.lemmas.Option.{slice_get_within}
use Rattle.std.proofs.iter.runs.Lists.{nth_left}
use Rattle.kinds.specs.Kinds.{Kind}
use Rattle.working.specs.declared.record.Record.{Record}
use Rattle.working.specs.declared.work.Fresh.{Fresh}
use Rattle.working.specs.declared.fault.Fault.{Fault}
use Rattle.working.specs.declared.step.Stepped.{Stepped}
use Rattle.working.specs.Tasks.{Task}
use Rattle.working.specs.declared.fault.FaultKind.{FaultKind}
use Rattle.working.specs.Requests.{Request, fault, quiet, read, write, join, request, stored, faulted, reply}
use Rattle.working.specs.Steps.{model_of, fresh_task, Answered}
use Rattle.working.specs.declared.step.Stepped.TheVariants as stepped
use Rattle.tasks.specs.declared.tasks.Tasks.{Tasks}
use Rattle.tasks.specs.declared.step.Progress.TheVariants as progress
use Rattle.tasks.specs.Views.{store_of, tasks_of, declared_by}
use Rattle.tasks.specs.Moves.{Moves}
use Rattle.tasks.specs.Steps.{after, StepOf}
use Rattle.tasks.proofs.Numbered.{get_set, set_known, known}

pub stored_fault : (k : Kind) (m : List ℕ) (q : Request) (f : FaultKind) (l : ℕ) → reply m q ≡ faulted f l → stored k m q ≡ m
unfolding reply stored
stored_fault k m (fault g n) f l e = refl
stored_fault k m (quiet x) f l e = refl
stored_fault k m (read o x) f l e = refl
stored_fault k m (write o w x) f l e = cc
stored_fault k m (join o w x) f l e = cc

-- the step, once it is known what it came to
pub came : {k : Kind} {i : ℕ} {s s' : Tasks} {a : Result Stepped Fault} {x y : Stepped} → Moves k i s a s' → a ≡ Ok x → x ≡ y → Moves k i s (Ok y) s'
came {k} {i} {s} {s'} h e f = subst (λ (b : Result Stepped Fault). Moves k i s b s') (e ∙ ap (λ z. Ok z) f) h

-- a step of task i took s to s'
module _ {k : Kind} {i : ℕ} {s s' : Tasks} where
  -- the task, and what is left of it
  abbrev pub task : {a : Result Stepped Fault} → Moves k i s a s' → Task
  task h = model_of h.before

  abbrev pub left : {a : Result Stepped Fault} → Moves k i s a s' → Task
  left h = model_of h.after

  found : {a : Result Stepped Fault} (h : Moves k i s a s') → slice_get (tasks_of s) i ≡ Some (task h)
  found h = known s i h.before h.found

  changes : {a : Result Stepped Fault} (h : Moves k i s a s') → tasks_of s' ≡ set (tasks_of s) i (left h)
  changes h = ap (map model_of) h.tasks ∙ map-set model_of (vec_items s.tasks) i h.after

  found_left : {a : Result Stepped Fault} (h : Moves k i s a s') → slice_get (tasks_of s') i ≡ Some (left h)
  found_left h = ap (λ (ts : List Task). slice_get ts i) (changes h) ∙ get_set (tasks_of s) i (task h) (left h) (found h)

  -- a task that is as it was
  stays : {a : Result Stepped Fault} (h : Moves k i s a s') → left h ≡ task h → tasks_of s' ≡ tasks_of s
  stays h e = changes h ∙ ap (set (tasks_of s) i) e ∙ set_known (tasks_of s) i (task h) (found h)

  pub faults : (f : Fault) (h : Moves k i s (Err f) s') → StepOf k i (task h) s (Err f) s'
  unfolding Answered after
  faults f h =
      let e = h.answer.0 in
      record {
        known = found h;
        answer = e;
        words = h.answer.2 ∙ sym (stored_fault k (store_of s) (request k (task h)) f.kind f.line e);
        tasks = stays h h.answer.1 ∙ ap (after i (tasks_of s)) (sym e);
        kept = ap declared_by (found_left h) ∙ h.kept;
      }

  pub went : (h : Moves k i s (Ok stepped.Went) s') → StepOf k i (task h) s (Ok progress.Went) s'
  unfolding Answered after
  went h =
      record {
        known = found h;
        answer = (left h, h.answer.0);
        words = h.answer.1;
        tasks = changes h ∙ ap (after i (tasks_of s)) (sym h.answer.0);
        kept = ap declared_by (found_left h) ∙ h.kept;
      }

  pub amended : (h : Moves k i s (Ok stepped.Amended) s') → StepOf k i (task h) s (Ok progress.Amended) s'
  unfolding Answered after
  amended h =
      record {
        known = found h;
        answer = (left h, h.answer.0);
        words = h.answer.1;
        tasks = changes h ∙ ap (after i (tasks_of s)) (sym h.answer.0);
        kept = tt;
      }

  pub finished : (h : Moves k i s (Ok stepped.Finished) s') → StepOf k i (task h) s (Ok progress.Finished) s'
  unfolding Answered after
  finished h =
      record {
        known = found h;
        answer = h.answer.0;
        words = h.answer.1;
        tasks = stays h h.answer.2 ∙ ap (after i (tasks_of s)) (sym h.answer.0);
        kept = ap declared_by (found_left h) ∙ h.kept;
      }

  -- and then the child was put behind the others
  pub made : (u : Record) (f : Fresh) (s'' : Tasks) (n : ℕ) (h : Moves k i s (Ok (stepped.Made u f)) s') → n ≡ length (tasks_of s') → store_of s'' ≡ store_of s' → tasks_of s'' ≡ tasks_of s' ++ fresh_task u f ∷ [] → StepOf k i (task h) s (Ok (progress.Made n)) s''
  unfolding Answered after
  made u f s'' n h c m e =
      let child = fresh_task u f in
      let there = nth_left (tasks_of s') (child ∷ []) i (slice_get_within (tasks_of s') i (left h) (found_left h)) in
      record {
        known = found h;
        answer = (child, left h, h.answer.0, c ∙ ap length (changes h) ∙ length-set (tasks_of s) i (left h));
        words = m ∙ h.answer.1;
        tasks = e ∙ ap (λ (ts : List Task). ts ++ child ∷ []) (changes h) ∙ ap (after i (tasks_of s)) (sym h.answer.0);
        kept = ap (λ (ts : List Task). declared_by (slice_get ts i)) e ∙ ap declared_by (there ∙ found_left h) ∙ h.kept;
      }
