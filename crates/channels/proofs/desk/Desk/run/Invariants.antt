use Rattle.channels.specs.Runs.{Goes}
use Rattle.channels.proofs.desk.Desk.run.Given as goal

abbrev pub invariant-loop-tick : goal.invariant-loop-tick
invariant-loop-tick g l = Goes g.K.ValueKind.kind l.fn.self.bench l.self.bench
