use Rattle.std.proofs.Common.{◌≡◌, vec_items, ap, rules}
use Rattle.working.specs.Results.{outcome_of, result_of}
use Rattle.runner.proofs.Texts.{made_along, sheet_words, sheet_fault}
use Rattle.runner.proofs.serial_sheet.Goals as goal

pub returns-in-Ok : goal.returns-in-Ok
returns-in-Ok g c =
    let worked = c.in_ok-outcome.field-0 in
    let same : c.deref.result.now ≡ vec_items c.in-Ok.words = search rules in
    made_along c.run_sheet.result _ _
    (sheet_words _ _ (result_of worked) _ _ c.in_ok-outcome.ensures.value (ap outcome_of c.in-Ok.is) same)
    c.run_sheet.ensures

pub returns-in-Err : goal.returns-in-Err
returns-in-Err g c =
    let worked = c.in_ok-outcome.field-0 in
    made_along c.fault_sheet.result _ _
    (sheet_fault _ _ (result_of worked) _ _ _ _ c.in_ok-outcome.ensures.value (ap outcome_of c.in-Err.is) c.ranks.ensures)
    c.fault_sheet.ensures
