-- When a call is refused.
use Rattle.std.specs.Prelude.{ℕ, Bool, true, false, cond, not, ◌&&◌, List, [], ◌∷◌, length, Some, None, Option, ◌==◌, nat_le}
use Rattle.kinds.specs.Kinds.{Kind}
use Rattle.runs.specs.Lines.{any_out}
use Rattle.runs.specs.Benches.{Bench, offer}
use Rattle.runs.specs.Events.{has_turn, can_close}
use Rattle.runs.specs.BenchSheets.{bench_sheet}
use Rattle.runs.specs.Refusals.{Refusal, NothingToOffer, Foreign, Unsettled, BufferTooShort}
use Rattle.runs.specs.Calls.{Going, Closed, Turn, Call, take, perform, hand_back, look, work_off, close, sheet}

-- the run number is the bench's, and of state and bench both or none is closed, or the turn's task has its turn out
unfoldable pub fits_going : Going → Bench → Bool
fits_going g b = g.run == b.run && not b.closed

unfoldable pub fits_closed : Closed → Bench → Bool
fits_closed z b = z.run == b.run && b.closed

unfoldable pub fits_turn : Turn → Bench → Bool
fits_turn t b = t.run == b.run && has_turn t.task b.line

unfoldable pub fits : Call → Bench → Bool
fits (take g f) b = fits_going g b
fits (perform t) b = fits_turn t b
fits (hand_back t) b = fits_turn t b
fits (look o i) b = true
fits (work_off g fs) b = fits_going g b
fits (close g) b = fits_going g b
fits (sheet z buffer) b = fits_closed z b

-- r unless the test holds
unfoldable pub unless : Bool → Refusal → Option Refusal
unless true r = None
unless false r = Some r

unfoldable pub not_empty : List ℕ → Bool
not_empty [] = false
not_empty (n ∷ ns) = true

unfoldable pub too_long : List ℕ → List ℕ → Option Refusal
too_long text buffer = unless (nat_le (length text) (length buffer)) BufferTooShort

-- the refusals besides the foreign ones
unfoldable pub own_refusal : Kind → Call → Bench → Option Refusal
own_refusal k (take g f) b = unless (not_empty (offer b)) NothingToOffer
own_refusal k (perform t) b = None
own_refusal k (hand_back t) b = None
own_refusal k (look o i) b = None
own_refusal k (work_off g fs) b = unless (not (any_out b.line)) Unsettled
own_refusal k (close g) b = unless (can_close b) Unsettled
own_refusal k (sheet z buffer) b = too_long (bench_sheet k b) buffer

-- a foreign state or turn is refused first
unfoldable pub refusal : Kind → Call → Bench → Option Refusal
refusal k x b = cond (fits x b) (own_refusal k x b) (Some Foreign)
