use Rattle.std.proofs.Common.{◌∙◌, arith, rules}
use Rattle.std.proofs.lemmas.Result.{err_from_is_err_and}
use Rattle.loading.proofs.Literals.{literals_stop, literals_more, literals_none}
use Rattle.loading.proofs.header.read_literals.Goals as goal

pub returns-in_err-literal : goal.returns-in_err-literal
returns-in_err-literal c =
    let p = err_from_is_err_and c.from_residual.result c.from_residual.ensures.1 in
    rw (p.1, p.2) (record { value = c.loop-i.invariant.0 ∙ literals_stop _ _ _ _ _ (omega arith) _ c.in_err-literal.ensures; count = tt; number = tt })

pub loop-i-preserved : goal.loop-i-preserved
loop-i-preserved c =
    let said = c.in_ok-literal.ensures in
    let pushed = c.in_ok-push.ensures in
    let more = c.loop-i.invariant.0 ∙ literals_more _ _ _ _ _ (omega arith) _ _ _ said.0 said.1 in
    (rw pushed.items (search rules), omega (arith, said.1), omega (arith, pushed.len))

pub returns : goal.returns
returns c = record { value = c.loop-i.invariant.0 ∙ literals_none _ _ _ _ _ (omega arith); count = omega arith; number = omega arith }
