use Rattle.runs.specs.Left.{left}
use Rattle.bench.specs.Views.{bench_of}
use Rattle.bench.specs.Ends.{Working}
use Rattle.bench.proofs.bench.Bench.settle.Given as goal

abbrev pub invariant-loop-self : goal.invariant-loop-self
invariant-loop-self g l = Working (g.K.ValueKind.kind l.initial.self.kind.now) g.S.Scheduler.choice g.S.Scheduler.next l.initial.scheduler l.initial.self l.scheduler l.self

abbrev pub decreases-loop-self : goal.decreases-loop-self
decreases-loop-self g l = left (bench_of l.self).line
