use Rattle.std.proofs.Common.{rules, tests, ◌+◌, ◌%◌, ◌==◌, unwrap_or, sym, ◌∙◌, ap, arith}
use Rattle.std.proofs.lemmas.Iterator.{YieldsList-from_slice}
use Rattle.std.proofs.lemmas.Iterator.Search.{position_from_yields_List}
use Rattle.schedulers.specs.Rounds.{met_stop, met_end, place_found}
use Rattle.schedulers.proofs.turns.Turns.meet.Goals as goal

pub returns-then-ahead-eq-ROUND : goal.returns-then-ahead-eq-ROUND
returns-then-ahead-eq-ROUND c = sym (c.nearest-ahead.ensures.skipped ∙ met_end _ _ _ (omega arith))

pub returns : goal.returns
returns c =
    let near = c.nearest-ahead.ensures in
    let n = (c.args.self.now.k + c.nearest-ahead.result) % 64 in
    let inside = near.offered (omega arith) in
    let found = position_from_yields_List (λ m. m == n) _ _ c.position.result c.position.ensures.ran (YieldsList-from_slice c.args.offer.now cc) (λ x b q k. search (rules, tests)) in
    ap (λ o. unwrap_or o 0) (found ∙ place_found n _ inside) ∙ sym (near.skipped ∙ met_stop _ _ _ (omega arith) inside)
