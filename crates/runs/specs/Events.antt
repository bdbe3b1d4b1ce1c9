-- The events of a run, and what a list of granted ones makes of a bench.
use Rattle.std.specs.Prelude.{ℕ, Bool, false, cond, not, ◌&&◌, List, [], ◌∷◌, Some, None, Option, option_and_then}
use Rattle.std.specs.Option.{option_map_or}
use Rattle.kinds.specs.Kinds.{Kind}
use Rattle.runs.specs.Lines.{waiting, out, is_out, Member, find, any_out}
use Rattle.runs.specs.Ready.{on_offer}
use Rattle.runs.specs.Benches.{Bench, settled}
use Rattle.runs.specs.Steps.{put, advanced, shut}

-- the turn of task n is taken, performed or handed back; the bench is closed
pub data Event : Type 0 where
  took performed handed_back : ℕ → Event
  closed : Event

unfoldable pub can_take : ℕ → List Member → Bool
can_take n line = option_map_or (on_offer line) (find n line) false

unfoldable pub has_turn : ℕ → List Member → Bool
has_turn n line = option_map_or (λ s. is_out s.status) (find n line) false

-- settled, with no turn out
unfoldable pub can_close : Bench → Bool
can_close b = settled b && not (any_out b.line)

-- whether a bench that is not closed grants an event
unfoldable pub grants : Event → Bench → Bool
grants (took n) b = can_take n b.line
grants (performed n) b = has_turn n b.line
grants (handed_back n) b = has_turn n b.line
grants closed b = can_close b

unfoldable pub effect : Kind → Event → Bench → Bench
effect k (took n) b = put n out b
effect k (performed n) b = advanced k n b
effect k (handed_back n) b = put n waiting b
effect k closed b = shut b

-- none where the event is not granted
unfoldable pub apply : Kind → Event → Bench → Option Bench
apply k e b = cond (not b.closed && grants e b) (Some (effect k e b)) None

unfoldable pub replay : Kind → List Event → Bench → Option Bench
replay k [] b = Some b
replay k (e ∷ es) b = option_and_then (replay k es) (apply k e b)
