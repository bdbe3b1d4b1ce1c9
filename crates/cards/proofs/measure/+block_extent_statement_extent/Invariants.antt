use Rattle.cards.proofs.tree.Block.TheLaws as block
use Rattle.cards.proofs.tree.Statement.TheLaws as statement
use Rattle.cards.proofs.measure.+block_extent_statement_extent.Given as goal

abbrev pub decreases-block_extent : goal.decreases-block_extent
decreases-block_extent l = block.the_size l.block.now

abbrev pub decreases-statement_extent : goal.decreases-statement_extent
decreases-statement_extent l = statement.the_size l.statement.now
