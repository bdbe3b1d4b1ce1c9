-- Each arm measures what its statement says.
use Rattle.std.proofs.Common.{◌+◌, arith, rules}
use Rattle.cards.specs.Trees.{block_of}
use Rattle.cards.specs.Bounds.{step_bound, statement_steps, task_bound, statement_tasks, statement_depth, statement_lines, statement_objects}
use Rattle.cards.specs.Literals.{statement_literals}
use Rattle.cards.proofs.Capped.{capped_rounds}
use Rattle.cards.proofs.measure.+block_extent_statement_extent.Goals as goal

pub statement_extent-returns-in-Repeat : goal.statement_extent-returns-in-Repeat
unfolding statement_steps statement_tasks statement_depth statement_lines statement_objects statement_literals
statement_extent-returns-in-Repeat t c =
    let b = block_of c.in-Repeat.body in
    let s = capped_rounds c.in-Repeat.count (1 + c.block_extent-in-Repeat.result.steps) (1 + step_bound b) 1_000_001 (omega arith) in
    let n = capped_rounds c.in-Repeat.count c.block_extent-in-Repeat.result.tasks (task_bound b) 65 (omega arith) in
    search rules
