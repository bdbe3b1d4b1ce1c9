-- A bench that calls lead on.
use Rattle.std.specs.Prelude.{◌≡◌}
use Rattle.kinds.specs.Kinds.{Kind}
use Rattle.bench.specs.declared.bench.Bench.{Bench}
use Rattle.bench.specs.Views.{bench_of}
use Rattle.bench.specs.Histories.{LeadsOn}

-- calls lead from b to b'; kind is what the program's values of the kind mean
pub record Goes {K : Type 0} (kind : K → Kind) (b b' : Bench K) : Type 0 where
  pub leads_on : LeadsOn (kind b.kind.now) (bench_of b) (bench_of b')
  pub same_kind : b'.kind ≡ b.kind
