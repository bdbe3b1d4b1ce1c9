-- A task by its number.
use Rattle.std.specs.Prelude.{ℕ, List, [], slice_index_or}
use Rattle.working.specs.Tasks.{Task}
use Rattle.lines.specs.Stored.{declaring}

-- past the last number, one that declares nothing
unfoldable pub task_at : List Task → ℕ → Task
task_at ts n = slice_index_or ts n (declaring [])
