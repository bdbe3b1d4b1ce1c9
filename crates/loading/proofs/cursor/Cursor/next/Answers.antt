use Rattle.std.proofs.Common.{arith}
use Rattle.std.proofs.lemmas.Result.{err_from_is_err_and}
use Rattle.loading.specs.Texts.{upcoming}
use Rattle.loading.proofs.Sections.{section_stops, section_unfit, section_says}
use Rattle.loading.proofs.cursor.Cursor.next.Goals as goal

pub returns-in_err-bytes : goal.returns-in_err-bytes
unfolding upcoming
returns-in_err-bytes c =
    let p = err_from_is_err_and c.from_residual.result c.from_residual.ensures.1 in
    rw (p.1, p.2) (section_stops _ _ _ c.if-self-eq0.false _ c.in_err-bytes.ensures)

pub returns-in_err-line : goal.returns-in_err-line
unfolding upcoming
returns-in_err-line c =
    let p = err_from_is_err_and c.from_residual-in_err-line.result c.from_residual-in_err-line.ensures.1 in
    rw (p.1, p.2) (section_unfit _ _ _ c.if-self-eq0.false _ c.in_ok-bytes.ensures.0 _ (rw c.number-number.ensures at c.in_err-line.ensures))

pub returns : goal.returns
unfolding upcoming
returns c =
    let moved = c.in_ok-bytes.ensures.1 in
    (section_says _ _ _ c.if-self-eq0.false _ c.in_ok-bytes.ensures.0 _ _ _ _ (rw c.number-number.ensures at c.in_ok-line.ensures) (omega (arith, moved.left)) moved.rest (omega (arith, moved.header, moved.line)), moved.line, moved.header, moved.objects, c.number-number.ensures)
