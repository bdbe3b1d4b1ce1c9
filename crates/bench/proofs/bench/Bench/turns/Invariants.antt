use Rattle.std.proofs.Common.{◌≡◌, ◌≤◌}
use Rattle.runs.specs.Left.{left}
use Rattle.bench.specs.Views.{bench_of}
use Rattle.bench.specs.Ends.{Working}
use Rattle.bench.proofs.bench.Bench.turns.Given as goal

abbrev pub invariant-loop-offered : goal.invariant-loop-offered
invariant-loop-offered g l =
    Working (g.K.ValueKind.kind l.initial.self.kind.now) g.S.Scheduler.choice g.S.Scheduler.next l.initial.scheduler l.initial.self l.scheduler l.self
    × (l.self.line ≡ l.initial.self.line)
    × (left (bench_of l.self).line ≤ left (bench_of l.initial.self).line)

abbrev pub decreases-loop-offered : goal.decreases-loop-offered
decreases-loop-offered g l = left (bench_of l.self).line
