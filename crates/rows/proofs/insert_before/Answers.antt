use Rattle.std.proofs.Common.{List, set, ap, ◌∙◌}
use Rattle.rows.proofs.Moved.{moved_up}
use Rattle.rows.proofs.insert_before.Goals as goal

pub returns : goal.returns
returns g c = ap (λ (l : List g.row.T.Denot). set l c.args.at c.args.x) c.copy_within.ensures.after ∙ moved_up c.args.row.now c.args.at c.args.x c.requires
