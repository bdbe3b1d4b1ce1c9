-- What values of the types stand for.
use Rattle.std.specs.Prelude.{length, Ok, Err, Result}
use Rattle.working.specs.declared.fault.Fault.{Fault}
use Rattle.runs.specs.declared.refusal.Refusal.{Refusal}
use Rattle.runs.specs.Benches as Model
use Rattle.runs.specs.Calls as Call
use Rattle.runs.specs.Calls.{Answer}
use Rattle.tasks.specs.Views.{store_of, tasks_of}
use Rattle.lines.specs.Lines.{line_of}
use Rattle.bench.specs.declared.bench.Bench.{Bench}
use Rattle.bench.specs.declared.tokens.Going.{Going}
use Rattle.bench.specs.declared.tokens.Closed.{Closed}
use Rattle.bench.specs.declared.tokens.Turn.{Turn}
use Rattle.bench.specs.declared.answers.Refused.{Refused}
use Rattle.bench.specs.Tasks.{task_at}

-- the bench: its run number, the objects' words, the line, the tasks made, the steps made, and whether it is closed
abbrev pub bench_of : {K : Type 0} → Bench K → Model.Bench
bench_of b = Model.bench b.run (store_of b.tasks) (line_of b.line (task_at (tasks_of b.tasks))) (length (tasks_of b.tasks)) b.steps b.closed

abbrev pub going_of : Going → Call.Going
going_of g = Call.going_state g.run

abbrev pub closed_of : Closed → Call.Closed
closed_of z = Call.closed_state z.run

abbrev pub turn_of : Turn → Call.Turn
turn_of t = Call.turn_of t.run t.task

-- what a call answers: what it gives where it is granted, or the refusal
abbrev pub answer_of : {A T : Type 0} → (A → Answer) → Result A (Refused T) → Answer
answer_of f (Ok x) = f x
answer_of f (Err e) = Answer.refused e.refusal

abbrev pub taken : Result Turn Refusal → Answer
taken (Ok t) = Answer.turn (turn_of t)
taken (Err r) = Answer.refused r

abbrev pub performed : Result (Unit {0}) Fault → Answer
performed (Ok u) = Answer.done
performed (Err f) = Answer.fault f.kind f.line
