use Rattle.std.proofs.Common.{refl, ◌∙◌, arith}
use Rattle.std.proofs.lemmas.Result.{err_from_is_err_and}
use Rattle.loading.proofs.Readers.{section_open, section_fault, section_closes, section_wrong, section_more, forward_both, forward_next}
use Rattle.loading.proofs.blocks.read_section.Goals as goal

pub loop-section-init : goal.loop-section-init
loop-section-init c = record { value = rw c.new-section.ensures refl; forward = record { fewer = omega arith; header = refl; objects = refl } }

pub returns-in_err-said : goal.returns-in_err-said
returns-in_err-said c =
    let p = err_from_is_err_and c.from_residual.result c.from_residual.ensures.1 in
    rw (p.1, p.2) (record { value = c.loop-section.invariant.value ∙ section_fault _ _ _ _ _ _ c.in_err-said.ensures; forward = tt })

pub returns-in_default-clause-value : goal.returns-in_default-clause-value
returns-in_default-clause-value c =
    let told = rw c.in_default.is at c.in_ok-said.ensures in
    rw c.into.ensures (c.loop-section.invariant.value ∙ section_open _ _ _ _ _ told.0 ∙ cc (told.2, told.3, c.number.ensures))

pub returns-in_err-declared-clause-value : goal.returns-in_err-declared-clause-value
returns-in_err-declared-clause-value c =
    let p = err_from_is_err_and c.from_residual-in_err-declared.result c.from_residual-in_err-declared.ensures.1 in
    let told = rw c.in-Some.is at c.in_ok-said.ensures in
    let is = c.in_err-declared.ensures in
    rw (p.1, p.2) (c.loop-section.invariant.value ∙ section_wrong _ _ _ _ _ _ _ told.0 (is.mark c.loop-section.lines.line) ∙ cc (is.fault, told.4))

pub returns-in_default-2-clause-value : goal.returns-in_default-2-clause-value
returns-in_default-2-clause-value c =
    let told = rw c.in-Some.is at c.in_ok-said.ensures in
    let closes = rw c.in_default-2.is at c.in_ok-declared.ensures.mark c.loop-section.lines.line in
    c.loop-section.invariant.value ∙ section_closes _ _ _ _ _ _ _ told.0 _ closes told.1

pub loop-section-preserved : goal.loop-section-preserved
loop-section-preserved c =
    let told = rw c.in-Some.is at c.in_ok-said.ensures in
    let declares = rw c.in-Some-2.is at c.in_ok-declared.ensures.mark c.loop-section.lines.line in
    record {
      value = c.loop-section.invariant.value ∙ section_more _ _ _ _ _ _ _ told.0 _ _ _ _ declares c.in_ok-push.ensures told.2 told.1;
      forward = forward_both _ _ _ c.loop-section.invariant.forward (forward_next _ _ _ told.0 told.2 told.3);
    }
