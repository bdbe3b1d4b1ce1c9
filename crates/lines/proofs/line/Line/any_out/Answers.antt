use Rattle.std.proofs.Common.{vec_items, ◌∙◌, rules, tests}
use Rattle.std.proofs.lemmas.Iterator.{YieldsList-from_slice}
use Rattle.std.proofs.lemmas.Iterator.Search.{any_from_yields_List}
use Rattle.lines.specs.States.{is_out}
use Rattle.lines.specs.Stored.{state_at}
use Rattle.lines.proofs.Standing.{any_is}
use Rattle.lines.proofs.line.Line.any_out.Goals as goal

pub returns : goal.returns
returns c = λ t.
    let s = c.args.self.now in
    any_from_yields_List (λ n. is_out (state_at s.states n)) _ _ _ c.any.ensures.ran (YieldsList-from_slice (vec_items s.order) cc) (λ x b q k. search (rules, tests))
    ∙ any_is s.states t (vec_items s.order)
