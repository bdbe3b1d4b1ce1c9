use Rattle.std.proofs.Common.{◌∙◌}
use Rattle.lines.proofs.Places.{put_at}
use Rattle.lines.proofs.numbered.put_before.Goals as goal

pub returns-clause-items : goal.returns-clause-items
returns-clause-items g c =
    c.insert.ensures.items ∙ put_at g.T.Numbered.known c.args.n c.args.x c.args.row.now.items c.unwrap_or-at.result (let p = c.place.ensures in let v = c.as_slice.ensures.value in let l = c.len.ensures in let k = c.args.row.now.ok.0 in let e = c.unwrap_or-at.ensures in cc)
