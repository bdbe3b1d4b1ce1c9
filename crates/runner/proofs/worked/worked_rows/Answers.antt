use Rattle.runner.proofs.Computed.{worked_rows}
use Rattle.runner.proofs.worked.worked_rows.Goals as goal

pub returns : goal.returns
returns c = worked_rows
