-- A step of a task whose turn is out.
use Rattle.std.specs.Prelude.{◌≡◌, ℕ, Result}
use Rattle.kinds.specs.Kinds.{Kind}
use Rattle.runs.specs.Steps.{advanced}
use Rattle.runs.specs.Answers.{step_answer}
use Rattle.working.specs.declared.fault.Fault.{Fault}
use Rattle.bench.specs.declared.bench.Bench.{Bench}
use Rattle.bench.specs.Views.{bench_of, performed}

-- task n steps, from b to b'
pub record Advances {K : Type 0} (k : Kind) (n : ℕ) (b : Bench K) (r : Result (Unit {0}) Fault) (b' : Bench K) : Type 0 where
  pub answer : performed r ≡ step_answer k n (bench_of b)
  pub bench : bench_of b' ≡ advanced k n (bench_of b)
  pub kind : b'.kind ≡ b.kind
