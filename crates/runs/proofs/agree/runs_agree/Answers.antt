use Rattle.runs.proofs.Promised.{whole_promise}
use Rattle.runs.proofs.agree.runs_agree.Goals as goal

pub returns : goal.returns
returns c = whole_promise
