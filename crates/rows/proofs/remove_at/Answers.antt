use Rattle.std.proofs.Common.{◌∙◌}
use Rattle.rows.proofs.Moved.{moved_down}
use Rattle.rows.proofs.remove_at.Goals as goal

pub returns : goal.returns
returns g c = c.copy_within.ensures.after ∙ moved_down c.args.row.now c.args.at c.requires
