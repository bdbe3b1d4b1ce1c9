use Rattle.std.proofs.Common.{rules}
use Rattle.cards.specs.Bounds.{step_bound, task_bound, depth, line_count, object_bound}
use Rattle.cards.specs.Literals.{all_literals, block_literals}
use Rattle.cards.proofs.card.Card.blank.Goals as goal

pub invariant_of-result : goal.invariant_of-result
unfolding step_bound task_bound depth line_count object_bound all_literals block_literals
invariant_of-result c = search rules
