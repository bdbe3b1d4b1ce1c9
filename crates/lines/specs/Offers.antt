-- What is offered, by the states and the flags.
use Rattle.std.specs.Prelude.{ℕ, Bool, false, ◌&&◌, List, slice_index_or}
use Rattle.lines.specs.declared.state.State.{State}
use Rattle.lines.specs.States.{is_waiting}
use Rattle.lines.specs.Stored.{state_at}

-- a task that waits and whose flag is set
unfoldable pub offers : List State → List Bool → ℕ → Bool
offers ss clear n = is_waiting (state_at ss n) && slice_index_or clear n false
