-- Turns that are out on channels.
use Rattle.std.specs.Prelude.{◌≡◌, ℕ, true, List, Some, None, Option, slice_index_or}
use Rattle.kinds.specs.Kinds.{Kind}
use Rattle.runs.specs.Benches.{Bench}
use Rattle.runs.specs.Steps.{advanced}
use Rattle.runs.specs.Tests.{fits_turn}
use Rattle.bench.specs.Views.{turn_of}
use Rattle.channels.specs.declared.desk.Out.{Out}

-- x is out on channel i
abbrev pub OutAt : List (Option Out) → ℕ → Out → Type 0
OutAt outs i x = slice_index_or outs i None ≡ Some x

-- the bench knows each turn as one that is out
abbrev pub Known : List (Option Out) → Bench → Type 0
Known outs b = (i : ℕ) (x : Out) → OutAt outs i x → fits_turn (turn_of x.turn) b ≡ true

-- no two turns are of one task
abbrev pub Apart : List (Option Out) → Type 0
Apart outs = (i j : ℕ) (x y : Out) → OutAt outs i x → OutAt outs j y → x.turn.task ≡ y.turn.task → i ≡ j

-- the turn that is out on channel i is performed: its task makes a step
abbrev pub Stepped : Kind → List (Option Out) → ℕ → Bench → Bench → Type 0
Stepped k outs i b b' = (x : Out) → OutAt outs i x → b' ≡ advanced k x.turn.task b
