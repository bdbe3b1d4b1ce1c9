use Rattle.std.proofs.Common.{◌≡◌, sym, ◌∙◌}
use Rattle.runs.specs.Benches.{bench, settled}
use Rattle.tasks.specs.Views.{tasks_of}
use Rattle.bench.specs.Tasks.{task_at}
use Rattle.bench.specs.Views.{bench_of}
use Rattle.bench.proofs.Worked.{working_all}
use Rattle.bench.proofs.bench.Bench.settle.Given as given
use Rattle.bench.proofs.bench.Bench.settle.Goals.{After-is_settled}
use Rattle.bench.proofs.bench.Bench.settle.Goals as goal

-- the test is the model's
is : (g : given.Over) (c : After-is_settled g) → c.is_settled.result ≡ settled (bench_of c.loop-self.self)
unfolding bench settled
is g c = c.is_settled.ensures (task_at (tasks_of c.loop-self.self.tasks))

pub returns : goal.returns
returns g c = working_all c.loop-self.invariant (sym (is g (goal.at.returns g c).After-is_settled) ∙ c.loop-self-test.false)
