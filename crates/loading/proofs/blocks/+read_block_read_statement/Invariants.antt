use Rattle.std.proofs.Common.{◌+◌, ◌*◌, length}
use Rattle.loading.specs.Texts.{upcoming}
use Rattle.loading.proofs.blocks.+read_block_read_statement.Given as goal

abbrev pub decreases-read_block : goal.decreases-read_block
decreases-read_block l = 2 * length (upcoming l.lines.now)

abbrev pub decreases-read_statement : goal.decreases-read_statement
decreases-read_statement l = 2 * length (upcoming l.lines.now) + 1
