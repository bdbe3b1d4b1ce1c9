use Rattle.std.proofs.Common.{◌≡◌, ℕ, ◌<◌, None, slice_index_or}
use Rattle.channels.specs.Runs.{Goes}
use Rattle.channels.proofs.desk.Desk.leave.Given as goal

abbrev pub invariant-loop-channel : goal.invariant-loop-channel
invariant-loop-channel g l = ((i : ℕ) → i < l.channel → slice_index_or l.self.outs i None ≡ None) × Goes g.K.ValueKind.kind l.fn.self.bench l.self.bench
