-- What a step of one task leaves of all, but for a child that it makes.
use Rattle.std.specs.Prelude.{◌≡◌, ℕ, Some, Result, vec_items, vec_len, slice_set}
use Rattle.std.specs.List.{slice_get}
use Rattle.kinds.specs.Kinds.{Kind}
use Rattle.working.specs.declared.task.Task.{Task}
use Rattle.working.specs.declared.fault.Fault.{Fault}
use Rattle.working.specs.declared.step.Stepped.{Stepped}
use Rattle.working.specs.Records.{declared_of}
use Rattle.working.specs.Steps.{Answered, ChildSized, Keeps}
use Rattle.tasks.specs.declared.tasks.Tasks.{Tasks}
use Rattle.tasks.specs.Views.{store_of}

-- task i, and what takes its place
pub record Moves (k : Kind) (i : ℕ) (s : Tasks) (a : Result Stepped Fault) (s' : Tasks) : Type 0 where
  pub before : Task
  pub after : Task
  pub found : slice_get (vec_items s.tasks) i ≡ Some before
  pub tasks : vec_items s'.tasks ≡ slice_set (vec_items s.tasks) i after
  pub answer : Answered k before (store_of s) a after (store_of s')
  pub count : vec_len s'.tasks ≡ vec_len s.tasks
  pub objects : vec_len s'.store ≡ vec_len s.store
  pub kept : Keeps (declared_of before.own) a (declared_of after.own)
  pub sized : ChildSized (vec_len s.store) a
