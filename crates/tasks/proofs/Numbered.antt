-- Tasks by their numbers.
use Rattle.std.proofs.Common.{◌≡◌, ℕ, zero, suc, List, [], ◌∷◌, length, map, set, Some, vec_len, sym, refl, ap, ◌∙◌}
use Rattle.std.specs.List.{slice_get}
use Rattle.std.specs.Option.{option_map}
use Rattle.std.proofs.lemmas.List.{length-map}
use Rattle.std.proofs.lemmas.Option.{slice_get-map}
use Rattle.working.specs.declared.task.Task.{Task}
use Rattle.working.specs.Steps.{model_of}
use Rattle.tasks.specs.declared.tasks.Tasks.{Tasks}
use Rattle.tasks.specs.Views.{tasks_of}

pub get_set : {A : Type 0} (xs : List A) (i : ℕ) (x y : A) → slice_get xs i ≡ Some x → slice_get (set xs i y) i ≡ Some y
get_set [] i x y e = cc
get_set (a ∷ xs) zero x y e = refl
get_set (a ∷ xs) (suc i) x y e = get_set xs i x y e

pub set_known : {A : Type 0} (xs : List A) (i : ℕ) (x : A) → slice_get xs i ≡ Some x → set xs i x ≡ xs
set_known [] i x e = refl
set_known (a ∷ xs) zero x e = let p : a ≡ x = cc in cc
set_known (a ∷ xs) (suc i) x e = ap (λ l. a ∷ l) (set_known xs i x e)

pub known : (s : Tasks) (i : ℕ) (t : Task) → slice_get s.tasks.items i ≡ Some t → slice_get (tasks_of s) i ≡ Some (model_of t)
known s i t e = slice_get-map model_of s.tasks.items i ∙ ap (option_map model_of) e

pub length_tasks : (s : Tasks) → length (tasks_of s) ≡ vec_len s.tasks
length_tasks s = length-map s.tasks.items model_of ∙ sym s.tasks.ok.0

-- what is found in a list that was mapped comes from an element there
pub some_of : {A B : Type 0} (f : A → B) (xs : List A) (i : ℕ) (y : B) → slice_get (map f xs) i ≡ Some y → (x : A) × (slice_get xs i ≡ Some x) × (f x ≡ y)
some_of f [] i y e = cc
some_of f (x ∷ xs) zero y e = let p : f x ≡ y = cc in (x, refl, p)
some_of f (x ∷ xs) (suc i) y e = some_of f xs i y e
