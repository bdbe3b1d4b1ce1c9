-- A task's state, and what an event comes to in it.
use Rattle.std.specs.Prelude.{Bool, true, false}
use Rattle.runs.specs.Lines.{Status, waiting, out, stuck}
use Rattle.lines.specs.declared.state.State.{State}
use Rattle.lines.specs.declared.state.State.TheVariants.{Finished, Waiting, Out, Stuck}
use Rattle.lines.specs.declared.state.Event.{Event}
use Rattle.lines.specs.declared.state.Event.TheVariants.{Take, Perform, HandBack}
use Rattle.lines.specs.declared.state.Deed.{Deed}
use Rattle.lines.specs.declared.state.Deed.TheVariants.{Refuse, Give, Step, Return}

abbrev pub deed : State → Event → Deed
deed Finished Take = Refuse
deed Finished Perform = Refuse
deed Finished HandBack = Refuse
deed Waiting Take = Give
deed Waiting Perform = Refuse
deed Waiting HandBack = Refuse
deed Out Take = Refuse
deed Out Perform = Step
deed Out HandBack = Return
deed (Stuck f) Take = Refuse
deed (Stuck f) Perform = Refuse
deed (Stuck f) HandBack = Refuse

abbrev pub is_finished : State → Bool
is_finished Finished = true
is_finished Waiting = false
is_finished Out = false
is_finished (Stuck f) = false

abbrev pub is_waiting : State → Bool
is_waiting Finished = false
is_waiting Waiting = true
is_waiting Out = false
is_waiting (Stuck f) = false

abbrev pub is_out : State → Bool
is_out Finished = false
is_out Waiting = false
is_out Out = true
is_out (Stuck f) = false

abbrev pub is_stuck : State → Bool
is_stuck Finished = false
is_stuck Waiting = false
is_stuck Out = false
is_stuck (Stuck f) = true

-- the status in the line; a finished task stands in no line
abbrev pub status_of : State → Status
status_of Finished = waiting
status_of Waiting = waiting
status_of Out = out
status_of (Stuck f) = stuck f.kind f.line
