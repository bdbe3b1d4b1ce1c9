use Rattle.std.proofs.Common.{eqb, position, sym, ap, ◌∙◌}
use Rattle.lines.proofs.Places.{set_none}
use Rattle.lines.proofs.numbered.revise.Goals as goal

pub returns-in_default-clause-items : goal.returns-in_default-clause-items
returns-in_default-clause-items g c =
    set_none g.T.Numbered.known c.args.n c.args.x c.args.row.now.items (ap (position (λ x. eqb (g.T.Numbered.known x) c.args.n)) (sym c.as_slice.ensures.value) ∙ sym c.place.ensures ∙ c.in_default.is)
