use Rattle.std.proofs.lemmas.Result.{err_from_is_err_and}
use Rattle.cards.specs.Trees.{statement_of}
use Rattle.loading.specs.Blocks.{closed_block_of}
use Rattle.loading.proofs.Readers.{block_out, block_fault, block_closes, fails_first, fails_then, reads_both, forward_none, forward_next, forward_both}
use Rattle.loading.proofs.blocks.+read_block_read_statement.Goals as goal

pub read_block-returns-in_err-said : goal.read_block-returns-in_err-said
read_block-returns-in_err-said t c =
    let p = err_from_is_err_and c.from_residual.result c.from_residual.ensures.1 in
    rw (p.1, p.2) (record { value = block_fault _ _ _ _ _ _ c.in_err-said.ensures; forward = tt })

pub read_block-returns-in_default : goal.read_block-returns-in_default
read_block-returns-in_default t c =
    let told = rw c.in_default.is at c.in_ok-said.ensures in
    record { value = block_out _ _ _ _ _ _ _ told.0 told.1 told.2; forward = forward_none _ _ told.1 told.3 told.4 }

pub read_block-returns-in-Some-close_block : goal.read_block-returns-in-Some-close_block
read_block-returns-in-Some-close_block t c =
    let told = rw c.in-Some.is at c.in_ok-said.ensures in
    record {
      value = block_closes _ _ _ _ _ _ _ told.0 _ _ _ told.4 c.in-Some-close_block.ensures told.1;
      forward = forward_next _ _ _ told.0 told.2 told.3;
    }

pub read_block-returns-in_err-statement : goal.read_block-returns-in_err-statement
read_block-returns-in_err-statement t c =
    let p = err_from_is_err_and c.from_residual-in_err-statement.result c.from_residual-in_err-statement.ensures.1 in
    let told = rw c.in-Some.is at c.in_ok-said.ensures in
    rw (p.1, p.2) (record {
      value = fails_first _ _ _ _ _ _ _ told.0 _ _ _ _ told.2 told.3 told.4 c.in_default-close_block.ensures told.1 statement_of _ c.read_statement.new.lines c.in_err-statement.ensures.value closed_block_of;
      forward = tt;
    })

pub read_block-returns-in_err-rest : goal.read_block-returns-in_err-rest
read_block-returns-in_err-rest t c =
    let p = err_from_is_err_and c.from_residual-in_err-rest.result c.from_residual-in_err-rest.ensures.1 in
    let told = rw c.in-Some.is at c.in_ok-said.ensures in
    let said = c.in_ok-statement.ensures in
    rw (p.1, p.2) (record {
      value = fails_then _ _ _ _ _ _ _ told.0 _ _ _ _ told.2 told.3 told.4 c.in_default-close_block.ensures told.1 _ _ _ _ _ said.forward.header said.forward.objects said.forward.fewer said.value closed_block_of _ c.read_block.new.lines c.in_err-rest.ensures.value;
      forward = tt;
    })

pub read_block-returns : goal.read_block-returns
read_block-returns t c =
    let told = rw c.in-Some.is at c.in_ok-said.ensures in
    let said = c.in_ok-statement.ensures in
    let rest = c.in_ok-rest.ensures in
    record {
      value = rw c.in_ok-step.ensures.ok (reads_both _ _ _ _ _ _ _ told.0 _ _ _ _ told.2 told.3 told.4 c.in_default-close_block.ensures told.1 _ _ _ _ _ said.forward.header said.forward.objects said.forward.fewer said.value _ _ _ _ rest.value);
      forward = forward_both _ _ _ (forward_both _ _ _ (forward_next _ _ _ told.0 told.2 told.3) said.forward) rest.forward;
    }
