use Rattle.runs.proofs.Computed.{worked_examples}
use Rattle.runs.proofs.agree.examples.Goals as goal

pub returns : goal.returns
returns c = worked_examples
