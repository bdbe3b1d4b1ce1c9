-- The words and the tasks that a value of the type stands for.
use Rattle.std.specs.Prelude.{ℕ, List, [], map, Some, None, vec_items, Option}
use Rattle.working.specs.declared.declared.Declared.{Declared}
use Rattle.working.specs.Tasks.{Task}
use Rattle.working.specs.Steps.{model_of}
use Rattle.tasks.specs.declared.tasks.Tasks.{Tasks}

abbrev pub store_of : Tasks → List ℕ
store_of s = vec_items s.store

-- the tasks by their numbers, from 0
abbrev pub tasks_of : Tasks → List Task
tasks_of s = map model_of (vec_items s.tasks)

-- what a task declares, nothing where there is none
abbrev pub declared_by : Option Task → List Declared
declared_by None = []
declared_by (Some t) = t.declared
