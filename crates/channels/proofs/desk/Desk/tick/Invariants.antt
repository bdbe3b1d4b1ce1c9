use Rattle.channels.specs.Runs.{Goes}
use Rattle.channels.proofs.desk.Desk.tick.Given as goal

abbrev pub invariant-loop-channel : goal.invariant-loop-channel
invariant-loop-channel g l = Goes g.K.ValueKind.kind l.fn.self.bench l.self.bench

abbrev pub invariant-loop-channel-2 : goal.invariant-loop-channel-2
invariant-loop-channel-2 g l = Goes g.K.ValueKind.kind l.fn.self.bench l.self.bench
