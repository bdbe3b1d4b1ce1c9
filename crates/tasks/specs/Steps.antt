-- What a step of a task answers and leaves.
use Rattle.std.specs.Prelude.{◌≡◌, ℕ, ◌≤◌, List, [], ◌∷◌, ◌++◌, length, Some, None, Option, Result, Ok, Err, slice_set}
use Rattle.std.specs.List.{slice_get}
use Rattle.kinds.specs.Kinds.{Kind}
use Rattle.working.specs.declared.declared.Declared.{Declared}
use Rattle.working.specs.declared.fault.Fault.{Fault}
use Rattle.working.specs.Tasks.{Task}
use Rattle.working.specs.Requests.{leaves, goes, makes, request, stored, Reply, faulted, stepped, reply}
use Rattle.tasks.specs.declared.tasks.Tasks.{Tasks}
use Rattle.tasks.specs.declared.step.Progress.{Progress}
use Rattle.tasks.specs.declared.step.Progress.TheVariants.{Went, Amended, Finished, Made}
use Rattle.tasks.specs.Views.{store_of, tasks_of, declared_by}

-- the tasks after a step of task n: a fault or the last step leaves them, and a child stands behind the others
unfoldable pub after : ℕ → List Task → Reply → List Task
after n ts (faulted f l) = ts
after n ts (stepped leaves) = ts
after n ts (stepped (goes t)) = slice_set ts n t
after n ts (stepped (makes u t)) = slice_set ts n t ++ u ∷ []

-- what the answer says of the reply, where c tasks were made so far
abbrev pub Says : ℕ → Result Progress Fault → Reply → Type 0
Says c (Err f) q = q ≡ faulted f.kind f.line
Says c (Ok Went) q = (t : Task) × (q ≡ stepped (goes t))
Says c (Ok Amended) q = (t : Task) × (q ≡ stepped (goes t))
Says c (Ok Finished) q = q ≡ stepped leaves
Says c (Ok (Made n)) q = (u : Task) × (t : Task) × (q ≡ stepped (makes u t)) × (n ≡ c)

-- declarations stay, unless they are amended
abbrev pub Keeps : Result Progress Fault → List Declared → List Declared → Type 0
Keeps (Err f) ds ds' = ds' ≡ ds
Keeps (Ok Went) ds ds' = ds' ≡ ds
Keeps (Ok Amended) ds ds' = Unit {0}
Keeps (Ok Finished) ds ds' = ds' ≡ ds
Keeps (Ok (Made n)) ds ds' = ds' ≡ ds

-- a step of task n, which is t
pub record StepOf (k : Kind) (n : ℕ) (t : Task) (s : Tasks) (a : Result Progress Fault) (s' : Tasks) : Type 0 where
  pub known : slice_get (tasks_of s) n ≡ Some t
  pub answer : Says (length (tasks_of s)) a (reply (store_of s) (request k t))
  pub words : store_of s' ≡ stored k (store_of s) (request k t)
  pub tasks : tasks_of s' ≡ after n (tasks_of s) (reply (store_of s) (request k t))
  pub kept : Keeps a t.declared (declared_by (slice_get (tasks_of s') n))

-- no task n, and nothing changed; or its step
abbrev pub Steps : Kind → ℕ → Tasks → Option (Result Progress Fault) → Tasks → Type 0
Steps k n s None s' = (length (tasks_of s) ≤ n) × (s' ≡ s)
Steps k n s (Some a) s' = (t : Task) × StepOf k n t s a s'
