use Rattle.std.proofs.Common.{◌≡◌, vec_len}
use Rattle.working.specs.Works.{work_of, Stays}
use Rattle.working.proofs.work.Work.head.Given as goal

abbrev pub invariant-loop-self : goal.invariant-loop-self
invariant-loop-self l = (work_of l.self ≡ work_of l.initial.self) × Stays l.initial.self l.self

abbrev pub decreases-loop-self : goal.decreases-loop-self
decreases-loop-self l = vec_len l.self.frames
