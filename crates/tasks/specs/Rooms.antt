-- What the room for tasks is measured by.
use Rattle.std.specs.Prelude.{ℕ, List, map, sum_by}
use Rattle.cards.specs.Bounds.{task_bound}
use Rattle.working.specs.declared.task.Task.{Task}
use Rattle.working.specs.Works.{work_of}

-- the most tasks that a task can still make, and that all these can
abbrev pub bound : Task → ℕ
bound t = task_bound (work_of t.work)

unfoldable pub to_make : List Task → ℕ
to_make ts = sum_by bound ts

-- how many objects each task's record has
unfoldable pub sizes : List Task → List ℕ
sizes ts = map (λ (t : Task). t.own.objects) ts
