-- A pile of tasks that wait for the one above, and where serial working stops.
use Rattle.std.specs.Prelude.{ℕ, List, [], ◌∷◌, Result, Ok, Err}
use Rattle.working.specs.Tasks as Tasks
use Rattle.working.specs.Serial as Serial
use Rattle.working.specs.declared.task.Task.{Task}
use Rattle.working.specs.declared.fault.TaskFault.{TaskFault}
use Rattle.working.specs.declared.pile.Ran.{Ran}
use Rattle.working.specs.Works.{ranks_of}
use Rattle.working.specs.Steps.{model_of}

-- the tasks of a pile and then those below; the last of a pile is on top
unfoldable pub piled : List Task → List Tasks.Task → List Tasks.Task
piled [] below = below
piled (t ∷ ts) below = piled ts (model_of t ∷ below)

-- where it stops, with words m
abbrev pub stop_of : Result (Unit {0}) TaskFault → List ℕ → Serial.Outcome
stop_of (Ok _) m = Serial.words m
stop_of (Err f) m = Serial.fault f.fault.kind f.fault.line (ranks_of f.place)

abbrev pub ran_of : Ran → List ℕ → Serial.Result
ran_of r m = Serial.result (stop_of r.stop m) r.steps r.made
