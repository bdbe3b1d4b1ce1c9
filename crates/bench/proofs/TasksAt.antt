-- Tasks by their numbers, after one changes or is put behind the others.
use Rattle.std.proofs.Common.{◌≡◌, ℕ, zero, suc, ◌<◌, List, [], ◌∷◌, ◌++◌, length, set, Some, refl, ap}
use Rattle.std.specs.List.{slice_get}
use Rattle.std.proofs.lemmas.List.{get_or-set_same, get_or-set_other}
use Rattle.std.proofs.lemmas.Option.{get_or_from_slice_get, slice_get-get_or}
use Rattle.working.specs.Tasks.{Task}
use Rattle.lines.specs.Stored.{declaring}
use Rattle.tasks.specs.Views.{declared_by}
use Rattle.bench.specs.Tasks.{task_at}

pub at_known : (ts : List Task) (n : ℕ) (t : Task) → slice_get ts n ≡ Some t → task_at ts n ≡ t
unfolding task_at
at_known ts n t e = get_or_from_slice_get ts n t (declaring []) e

pub at_there : (ts : List Task) (n : ℕ) → n < length ts → slice_get ts n ≡ Some (task_at ts n)
unfolding task_at
at_there ts n lt = slice_get-get_or ts n (declaring []) lt

pub at_declared : (ts : List Task) (n : ℕ) → (task_at ts n).declared ≡ declared_by (slice_get ts n)
unfolding task_at declaring
at_declared [] n = refl
at_declared (t ∷ ts) zero = refl
at_declared (t ∷ ts) (suc n) = at_declared ts n

pub at_set_same : (ts : List Task) (n : ℕ) (t : Task) → n < length ts → task_at (set ts n t) n ≡ t
unfolding task_at
at_set_same ts n t lt = get_or-set_same ts n t (declaring []) lt

pub at_set_other : (ts : List Task) (n k : ℕ) (t : Task) → (k ≡ n → ⊥) → task_at (set ts n t) k ≡ task_at ts k
unfolding task_at
at_set_other ts n k t ne = get_or-set_other ts n k t (declaring []) ne

pub at_push_same : (ts : List Task) (t : Task) → task_at (ts ++ t ∷ []) (length ts) ≡ t
unfolding task_at
at_push_same [] t = refl
at_push_same (u ∷ ts) t = at_push_same ts t

pub at_push_other : (ts : List Task) (k : ℕ) (t : Task) → (k ≡ length ts → ⊥) → task_at (ts ++ t ∷ []) k ≡ task_at ts k
unfolding task_at
at_push_other [] zero t ne = absurd (ne refl)
at_push_other [] (suc k) t ne = refl
at_push_other (u ∷ ts) zero t ne = refl
at_push_other (u ∷ ts) (suc k) t ne = at_push_other ts k t (λ e. ne (ap suc e))
