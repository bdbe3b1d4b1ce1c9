use Rattle.std.proofs.Common.{true, false, sym, refl, ap, ◌∙◌, rules}
use Rattle.std.proofs.lemmas.Result.{err_from_is_err_and}
use Rattle.cards.specs.Trees.{block_of, statement_of}
use Rattle.working.proofs.Effects.{does_set, does_add, does_point, does_alias, does_read, does_write, does_join, fails_read, fails_write, fails_join, does_if, skips_if, does_if_else, does_repeat, does_with, fails_with, does_task, in_if, in_if_else, in_task}
use Rattle.working.proofs.record.Record.act.Goals as goal

pub returns-in-Set-clause-does : goal.returns-in-Set-clause-does
returns-in-Set-clause-does g c = does_set c.in-Set.word.n c.in-Set.literal c.literal.result (ap statement_of c.in-Set.is) (search rules) (refl, refl, refl) refl

pub returns-in-Add-clause-does : goal.returns-in-Add-clause-does
returns-in-Add-clause-does g c = does_add c.in-Add.left.n c.in-Add.right.n c.add.result (ap statement_of c.in-Add.is) (cc) (refl, refl, refl) refl

pub returns-in-Point-clause-does : goal.returns-in-Point-clause-does
returns-in-Point-clause-does g c = does_point c.in-Point.pointer.n c.in-Point.object (ap statement_of c.in-Point.is) (refl, refl, refl) refl

pub returns-in-Alias-clause-does : goal.returns-in-Alias-clause-does
returns-in-Alias-clause-does g c = does_alias c.in-Alias.left.n c.in-Alias.right.n (ap statement_of c.in-Alias.is) (refl, refl, refl) refl

pub returns-then-less-clause-does : goal.returns-then-less-clause-does
returns-then-less-clause-does g c =
    let e = ap statement_of c.in-If.is in
    let x = block_of c.in-If.first in
    does_if c.in-If.left.n c.in-If.right.n c.word-in-If.result c.word-in-If-2.result x _ e c.word-in-If.ensures c.word-in-If-2.ensures (sym c.if-less.true ∙ c.less.ensures) refl refl refl

pub returns-then-less-clause-inside : goal.returns-then-less-clause-inside
returns-then-less-clause-inside g c =
    let s = statement_of c.args.step.now.statement in
    let e = ap statement_of c.in-If.is in
    let x = block_of c.in-If.first in
    in_if c.in-If.left.n c.in-If.right.n x s e

pub returns-else-less-clause-does : goal.returns-else-less-clause-does
returns-else-less-clause-does g c = skips_if c.in-If.left.n c.in-If.right.n c.word-in-If.result c.word-in-If-2.result (block_of c.in-If.first) (ap statement_of c.in-If.is) c.word-in-If.ensures c.word-in-If-2.ensures (sym c.if-less.false ∙ c.less.ensures) refl refl

pub returns-then-less-2-clause-does : goal.returns-then-less-2-clause-does
returns-then-less-2-clause-does g c =
    let e = ap statement_of c.in-IfElse.is in
    let x = block_of c.in-IfElse.first in
    let y = block_of c.in-IfElse.second in
    does_if_else c.in-IfElse.left.n c.in-IfElse.right.n c.word-in-IfElse.result c.word-in-IfElse-2.result x y _ true e c.word-in-IfElse.ensures c.word-in-IfElse-2.ensures (sym c.if-less-2.true ∙ c.less-in-IfElse.ensures) refl refl refl

pub returns-then-less-2-clause-inside : goal.returns-then-less-2-clause-inside
returns-then-less-2-clause-inside g c =
    let s = statement_of c.args.step.now.statement in
    let e = ap statement_of c.in-IfElse.is in
    let x = block_of c.in-IfElse.first in
    let y = block_of c.in-IfElse.second in
    in_if_else c.in-IfElse.left.n c.in-IfElse.right.n x y x s true e refl

pub returns-else-less-2-clause-does : goal.returns-else-less-2-clause-does
returns-else-less-2-clause-does g c =
    let e = ap statement_of c.in-IfElse.is in
    let x = block_of c.in-IfElse.first in
    let y = block_of c.in-IfElse.second in
    does_if_else c.in-IfElse.left.n c.in-IfElse.right.n c.word-in-IfElse.result c.word-in-IfElse-2.result x y _ false e c.word-in-IfElse.ensures c.word-in-IfElse-2.ensures (sym c.if-less-2.false ∙ c.less-in-IfElse.ensures) refl refl refl

pub returns-else-less-2-clause-inside : goal.returns-else-less-2-clause-inside
returns-else-less-2-clause-inside g c =
    let s = statement_of c.args.step.now.statement in
    let e = ap statement_of c.in-IfElse.is in
    let x = block_of c.in-IfElse.first in
    let y = block_of c.in-IfElse.second in
    in_if_else c.in-IfElse.left.n c.in-IfElse.right.n x y y s false e refl

pub returns-in-Repeat-clause-does : goal.returns-in-Repeat-clause-does
returns-in-Repeat-clause-does g c = does_repeat c.in-Repeat.count _ (ap statement_of c.in-Repeat.is) refl refl

pub returns-in_err-o-in-Read-clause-does : goal.returns-in_err-o-in-Read-clause-does
returns-in_err-o-in-Read-clause-does g c =
    let p = err_from_is_err_and c.from_residual.result c.from_residual.ensures.1 in
    let h = c.in_err-o-in-Read.ensures in
    rw (p.1, p.2, h.0) (fails_read c.in-Read.word.n c.in-Read.pointer.n _ (ap statement_of c.in-Read.is) refl (sym h.1) refl refl)

pub returns-in_err-o-in-Write-clause-does : goal.returns-in_err-o-in-Write-clause-does
returns-in_err-o-in-Write-clause-does g c =
    let p = err_from_is_err_and c.from_residual-in_err-o-in-Write.result c.from_residual-in_err-o-in-Write.ensures.1 in
    let h = c.in_err-o-in-Write.ensures in
    rw (p.1, p.2, h.0) (fails_write c.in-Write.pointer.n c.in-Write.word.n _ (ap statement_of c.in-Write.is) refl (sym h.1) refl refl)

pub returns-in_err-o-in-Join-clause-does : goal.returns-in_err-o-in-Join-clause-does
returns-in_err-o-in-Join-clause-does g c =
    let p = err_from_is_err_and c.from_residual-in_err-o-in-Join.result c.from_residual-in_err-o-in-Join.ensures.1 in
    let h = c.in_err-o-in-Join.ensures in
    rw (p.1, p.2, h.0) (fails_join c.in-Join.pointer.n c.in-Join.word.n _ (ap statement_of c.in-Join.is) refl (sym h.1) refl refl)

pub returns-in_err-amend-in-With-clause-does : goal.returns-in_err-amend-in-With-clause-does
returns-in_err-amend-in-With-clause-does g c =
    let p = err_from_is_err_and c.from_residual-in_err-amend-in-With.result c.from_residual-in_err-amend-in-With.ensures.1 in
    let h = c.in_err-amend-in-With.ensures in
    rw (p.1, p.2) (fails_with c.in-With.section.lines.items _ (ap statement_of c.in-With.is) h.0 h.1 refl)

pub returns-in_ok-o-in-Read-clause-does : goal.returns-in_ok-o-in-Read-clause-does
returns-in_ok-o-in-Read-clause-does g c =
    let h = c.in_ok-o-in-Read.ensures in
    does_read c.in-Read.word.n c.in-Read.pointer.n c.in_ok-o-in-Read.o (ap statement_of c.in-Read.is) h.0 (sym h.1) (refl, refl, refl) refl

pub returns-in_ok-o-in-Write-clause-does : goal.returns-in_ok-o-in-Write-clause-does
returns-in_ok-o-in-Write-clause-does g c =
    let h = c.in_ok-o-in-Write.ensures in
    does_write c.in-Write.pointer.n c.in-Write.word.n c.in_ok-o-in-Write.o c.word-in-Write.result (ap statement_of c.in-Write.is) h.0 (sym h.1) c.word-in-Write.ensures refl refl

pub returns-in_ok-o-in-Join-clause-does : goal.returns-in_ok-o-in-Join-clause-does
returns-in_ok-o-in-Join-clause-does g c =
    let h = c.in_ok-o-in-Join.ensures in
    does_join c.in-Join.pointer.n c.in-Join.word.n c.in_ok-o-in-Join.o c.word-in-Join.result c.join.result (ap statement_of c.in-Join.is) h.0 (sym h.1) c.word-in-Join.ensures c.join.ensures refl refl

pub returns-in-Task-clause-does : goal.returns-in-Task-clause-does
returns-in-Task-clause-does g c = does_task _ _ (ap statement_of c.in-Task.is) refl refl

pub returns-in-Task-clause-inside : goal.returns-in-Task-clause-inside
returns-in-Task-clause-inside g c = in_task c.in-Task.section.lines.items (block_of c.in-Task.body) (statement_of c.args.step.now.statement) (ap statement_of c.in-Task.is)

pub returns-in_ok-amend-in-With-clause-does : goal.returns-in_ok-amend-in-With-clause-does
returns-in_ok-amend-in-With-clause-does g c =
    let h = c.in_ok-amend-in-With.ensures in
    does_with c.in-With.section.lines.items (ap statement_of c.in-With.is) h.0 h.1 h.2 refl
