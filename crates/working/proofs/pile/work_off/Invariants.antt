use Rattle.std.proofs.Common.{vec_items}
use Rattle.working.proofs.Fine.{total_steps}
use Rattle.working.proofs.Piles.{line_of, Working}
use Rattle.working.proofs.pile.work_off.Given as goal

abbrev pub invariant-loop-stepped : goal.invariant-loop-stepped
invariant-loop-stepped g l = Working (g.K.ValueKind.kind l.kind) l.initial.store l.initial.task l.store l.task (vec_items l.pile) l.steps l.made

abbrev pub decreases-loop-stepped : goal.decreases-loop-stepped
decreases-loop-stepped g l = total_steps (line_of l.task (vec_items l.pile))
