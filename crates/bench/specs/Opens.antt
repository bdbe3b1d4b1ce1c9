-- What opening a card hands back.
use Rattle.std.specs.Prelude.{◌≡◌, ℕ}
use Rattle.kinds.specs.Kinds.{Kind}
use Rattle.cards.specs.Code.{Card}
use Rattle.runs.specs.Benches.{opened}
use Rattle.runs.specs.Calls.{going_state}
use Rattle.bench.specs.declared.bench.Bench.{Bench}
use Rattle.bench.specs.declared.tokens.Going.{Going}
use Rattle.bench.specs.Views.{bench_of, going_of}
use Rattle.bench.specs.Histories.{History, Promises}

-- card c is opened on b under run number r, with the state g; κ is the program's value of the kind k
pub record Opens {K : Type 0} (k : Kind) (c : Card) (r : ℕ) (κ : K) (b : Bench K) (g : Going) : Type 0 where
  pub bench : bench_of b ≡ opened k c r
  pub state : going_of g ≡ going_state r
  pub kind : b.kind.now ≡ κ
  -- what holds after every list of calls
  pub promises : Promises k c r
  pub history : History k c r (bench_of b)
