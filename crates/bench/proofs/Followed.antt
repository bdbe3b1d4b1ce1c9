-- What a step of a task leaves, told to the line, is what the step leaves in the model.
use Rattle.std.proofs.Common.{◌≡◌, ℕ, ◌+◌, ◌<◌, List, [], ◌∷◌, ◌++◌, length, set, Some, Ok, Err, Result, sym, refl, ap, ◌∙◌, subst, ap₂, arith}
use Rattle.std.specs.List.{slice_get}
use Rattle.std.proofs.lemmas.List.{length-set, length-append}
use Rattle.std.proofs.iter.runs.Lists.{slice_get_within}
use Rattle.working.specs.declared.fault.Fault.{Fault}
use Rattle.working.specs.Tasks.{Task}
use Rattle.working.specs.Requests.{leaves, goes, makes, Reply, faulted, stepped}
use Rattle.working.specs.Serial.{made_by}
use Rattle.runs.specs.Lines.{waiting, stuck, Member, member}
use Rattle.runs.specs.Steps.{members}
use Rattle.tasks.specs.declared.step.Progress.{Progress}
use Rattle.tasks.specs.declared.step.Progress.TheVariants.{Went, Amended, Finished, Made}
use Rattle.tasks.specs.Steps.{after, Says, Keeps}
use Rattle.bench.specs.Tasks.{task_at}
use Rattle.bench.specs.Follows.{declared_at, Differs, Declares, standing, added}
use Rattle.bench.proofs.TasksAt.{at_known, at_declared, at_set_same, at_set_other, at_push_same, at_push_other}

-- what stands in the place of task n, which is t, where c tasks were made; and how many tasks and steps a reply counts
unfoldable pub in_place : ℕ → ℕ → Task → Reply → List Member
in_place n c t (faulted f l) = member n (stuck f l) t ∷ []
in_place n c t (stepped x) = members n c x

unfoldable pub tasks_made : Reply → ℕ
tasks_made (faulted f l) = 0
tasks_made (stepped x) = made_by x

-- from tasks ts to ts' by a step of task n, which is t, that was replied q and told as a
pub record Follows (n : ℕ) (t : Task) (ts ts' : List Task) (a : Result Progress Fault) (q : Reply) : Type 0 where
  pub differs : Differs a n (task_at ts) (task_at ts')
  pub stands : standing a n (task_at ts') ≡ in_place n (length ts) t q
  pub makes : added a ≡ tasks_made q
  pub longer : length ts' ≡ length ts + added a

module _ (n : ℕ) (t : Task) (ts : List Task) (known : slice_get ts n ≡ Some t) where
  within : n < length ts
  within = slice_get_within ts n t known

  faults : (f : Fault) → Follows n t ts ts (Err f) (faulted f.kind f.line)
  unfolding in_place tasks_made
  faults f = record { differs = λ k ne. refl; stands = ap (λ (u : Task). member n (stuck f.kind f.line) u ∷ []) (at_known ts n t known); makes = refl; longer = omega arith }

  went : (u : Task) → Follows n t ts (set ts n u) (Ok Went) (stepped (goes u))
  unfolding in_place tasks_made members made_by
  went u = record { differs = λ k ne. at_set_other ts n k u ne; stands = ap (λ (v : Task). member n waiting v ∷ []) (at_set_same ts n u within); makes = refl; longer = omega (arith, length-set ts n u) }

  amended : (u : Task) → Follows n t ts (set ts n u) (Ok Amended) (stepped (goes u))
  amended u = let h = went u in record { differs = h.differs; stands = h.stands; makes = h.makes; longer = h.longer }

  finished : Follows n t ts ts (Ok Finished) (stepped leaves)
  unfolding in_place tasks_made members made_by
  finished = record { differs = λ k ne. refl; stands = refl; makes = refl; longer = omega arith }

  made : (u v : Task) → Follows n t ts (set ts n v ++ u ∷ []) (Ok (Made (length ts))) (stepped (makes u v))
  unfolding in_place tasks_made members made_by
  made u v =
      let long = length-set ts n v in
      let apart : n ≡ length (set ts n v) → ⊥ = λ e. omega (arith, within) in
      let own : task_at (set ts n v ++ u ∷ []) n ≡ v = at_push_other (set ts n v) n u apart ∙ at_set_same ts n v within in
      let child : task_at (set ts n v ++ u ∷ []) (length ts) ≡ u = ap (task_at (set ts n v ++ u ∷ [])) (sym long) ∙ at_push_same (set ts n v) u in
      record {
        differs = λ k ne nc. at_push_other (set ts n v) k u (λ e. nc (e ∙ long)) ∙ at_set_other ts n k v ne;
        stands = ap₂ (λ (x y : Task). member (length ts) waiting x ∷ member n waiting y ∷ []) child own;
        makes = refl;
        longer = omega (arith, length-append (set ts n v) (u ∷ []), long);
      }

  told : (ts' : List Task) (a : Result Progress Fault) (q p : Reply) → q ≡ p → ts' ≡ after n ts q → Follows n t ts (after n ts p) a p → Follows n t ts ts' a q
  told ts' a q p e d h =
      subst (λ (x : Reply). Follows n t ts ts' a x) (sym e) (subst (λ (xs : List Task). Follows n t ts xs a p) (sym (d ∙ ap (after n ts) e)) h)

  pub follows : (ts' : List Task) (a : Result Progress Fault) (q : Reply) → Says (length ts) a q → ts' ≡ after n ts q → Follows n t ts ts' a q
  unfolding after
  follows ts' (Err f) q e d = told ts' (Err f) q (faulted f.kind f.line) e d (faults f)
  follows ts' (Ok Went) q e d = told ts' (Ok Went) q (stepped (goes e.0)) e.1 d (went e.0)
  follows ts' (Ok Amended) q e d = told ts' (Ok Amended) q (stepped (goes e.0)) e.1 d (amended e.0)
  follows ts' (Ok Finished) q e d = told ts' (Ok Finished) q (stepped leaves) e d finished
  follows ts' (Ok (Made c)) q e d =
      subst (λ (i : ℕ). Follows n t ts ts' (Ok (Made i)) q) (sym e.3) (told ts' (Ok (Made (length ts))) q (stepped (makes e.0 e.1)) e.2 d (made e.0 e.1))

  -- declarations stay, unless they are amended
  pub declares : (ts' : List Task) (a : Result Progress Fault) → Keeps a t.declared (declared_at ts' n) → Declares a ts' n (task_at ts) (task_at ts')
  declares ts' (Err f) e = at_declared ts' n ∙ e ∙ ap (λ (u : Task). u.declared) (sym (at_known ts n t known))
  declares ts' (Ok Went) e = at_declared ts' n ∙ e ∙ ap (λ (u : Task). u.declared) (sym (at_known ts n t known))
  declares ts' (Ok Amended) e = at_declared ts' n
  declares ts' (Ok Finished) e = tt
  declares ts' (Ok (Made c)) e = (at_declared ts' n ∙ e ∙ ap (λ (u : Task). u.declared) (sym (at_known ts n t known)), at_declared ts' c)
