use Rattle.std.proofs.Common.{◌≡◌, true}
use Rattle.runs.proofs.WorkOffs.{work_off_promise}
use Rattle.runs.proofs.agree.work_offs_end.Goals as goal

pub returns : goal.returns
returns g c = λ choice follows chooses. work_off_promise _ choice (λ s ns t. follows s ns t ≡ true) chooses
