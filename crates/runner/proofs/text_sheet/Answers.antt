use Rattle.std.proofs.Common.{◌≡◌, Some, ap, ◌∙◌, arith}
use Rattle.loading.specs.Refusals.{told}
use Rattle.runner.specs.Texts.{card_sheet}
use Rattle.runner.proofs.Texts.{made_along, text_accepted, text_refused}
use Rattle.runner.proofs.text_sheet.Goals as goal

pub returns-in-Ok : goal.returns-in-Ok
returns-in-Ok c =
    made_along c.ordered_sheet.result _ _ (ap card_sheet c.card.ensures ∙ text_accepted _ _ c.in-Ok.ensures.loads) c.ordered_sheet.ensures

pub returns : goal.returns
returns c =
    let t = c.in_ok-t-in-Err.t in
    let told_is : Some t ≡ told c.in-Err.refusal = grind arith in
    made_along c.refused_sheet.result _ _ (text_refused _ _ _ _ _ told_is c.in-Err.ensures.loads) c.refused_sheet.ensures
