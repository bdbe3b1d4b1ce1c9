-- What a step answers and leaves.
use Rattle.std.specs.Prelude.{◌≡◌, ℕ, List, Result, Ok, Err}
use Rattle.kinds.specs.Kinds.{Kind}
use Rattle.cards.specs.Trees.{block_of}
use Rattle.working.specs.Tasks as Tasks
use Rattle.working.specs.Tasks.{Declared}
use Rattle.working.specs.Requests.{leaves, goes, makes, request, stored, faulted, stepped, reply}
use Rattle.working.specs.declared.fault.Fault.{Fault}
use Rattle.working.specs.declared.record.Record.{Record}
use Rattle.working.specs.declared.task.Task.{Task}
use Rattle.working.specs.declared.work.Work.{Work}
use Rattle.working.specs.declared.work.Fresh.{Fresh}
use Rattle.working.specs.declared.step.Stepped.{Stepped}
use Rattle.working.specs.declared.step.Stepped.TheVariants.{Went, Amended, Finished, Made}
use Rattle.working.specs.Works.{ranks_of, work_of}
use Rattle.working.specs.Records.{task_with}

-- the task that a record and its work are, and one that is not begun
abbrev pub task_of : Record → Work → Tasks.Task
task_of r w = task_with r (ranks_of w.place) w.children (work_of w)

abbrev pub model_of : Task → Tasks.Task
model_of t = task_of t.own t.work

abbrev pub fresh_task : Record → Fresh → Tasks.Task
fresh_task r f = task_with r (ranks_of f.place) 0 (block_of f.body.now)

-- from task t and words m to t' and m'
unfoldable pub Answered : Kind → Task → List ℕ → Result Stepped Fault → Task → List ℕ → Type 0
Answered k t m (Err f) t' m' = (reply m (request k (model_of t)) ≡ faulted f.kind f.line) × (model_of t' ≡ model_of t) × (m' ≡ m)
Answered k t m (Ok Went) t' m' = (reply m (request k (model_of t)) ≡ stepped (goes (model_of t'))) × (m' ≡ stored k m (request k (model_of t)))
Answered k t m (Ok Amended) t' m' = (reply m (request k (model_of t)) ≡ stepped (goes (model_of t'))) × (m' ≡ stored k m (request k (model_of t)))
Answered k t m (Ok Finished) t' m' = (reply m (request k (model_of t)) ≡ stepped leaves) × (m' ≡ stored k m (request k (model_of t))) × (model_of t' ≡ model_of t)
Answered k t m (Ok (Made u f)) t' m' = (reply m (request k (model_of t)) ≡ stepped (makes (fresh_task u f) (model_of t'))) × (m' ≡ stored k m (request k (model_of t)))

-- a child has as many objects
abbrev pub ChildSized : ℕ → Result Stepped Fault → Type 0
ChildSized n (Err f) = Unit {0}
ChildSized n (Ok Went) = Unit {0}
ChildSized n (Ok Amended) = Unit {0}
ChildSized n (Ok Finished) = Unit {0}
ChildSized n (Ok (Made u f)) = u.objects ≡ n

-- only a `with` changes the declarations
abbrev pub Keeps : List Declared → Result Stepped Fault → List Declared → Type 0
Keeps ds (Err f) ds' = ds' ≡ ds
Keeps ds (Ok Went) ds' = ds' ≡ ds
Keeps ds (Ok Amended) ds' = Unit {0}
Keeps ds (Ok Finished) ds' = ds' ≡ ds
Keeps ds (Ok (Made u f)) ds' = ds' ≡ ds
