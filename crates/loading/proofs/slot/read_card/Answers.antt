use Rattle.std.proofs.Common.{arith, rules}
use Rattle.std.proofs.lemmas.Result.{err_from_is_err_and}
use Rattle.std.proofs.lemmas.Bool.{lt-ltb}
use Rattle.loading.specs.Headers.{header_of}
use Rattle.loading.specs.Loading.{reading}
use Rattle.loading.proofs.Bodies.{header_fails, body_fails_reading, reading_by}
use Rattle.loading.proofs.slot.read_card.Goals as goal

pub returns-then-text-gt-MOST_BYTES : goal.returns-then-text-gt-MOST_BYTES
unfolding reading
returns-then-text-gt-MOST_BYTES c = search (rules, lt-ltb)

pub returns-in_err-header : goal.returns-in_err-header
returns-in_err-header c =
    let p = err_from_is_err_and c.from_residual.result c.from_residual.ensures.1 in
    rw (p.1, p.2) (header_fails _ (omega arith) header_of _ _ c.in_err-header.ensures.value)

pub returns-in_err-body : goal.returns-in_err-body
returns-in_err-body c =
    let p = err_from_is_err_and c.from_residual-in_err-body.result c.from_residual-in_err-body.ensures.1 in
    rw (p.1, p.2) (body_fails_reading _ (omega arith) _ _ c.in_ok-header.ensures.value _ c.in_err-body.ensures)

pub returns : goal.returns
returns c = reading_by _ (omega arith) _ _ c.in_ok-header.ensures.value _ c.bound.result c.in_ok-body.ensures.0 c.bound.ensures
