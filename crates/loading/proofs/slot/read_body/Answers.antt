use Rattle.std.proofs.Common.{refl}
use Rattle.std.proofs.lemmas.Result.{err_from_is_err_and}
use Rattle.loading.specs.Blocks.{closed_block_of}
use Rattle.loading.specs.Headers.{header_of}
use Rattle.loading.proofs.Bodies.{body_fails, body_open, body_reads}
use Rattle.loading.proofs.slot.read_body.Goals as goal

pub returns-in_err-body : goal.returns-in_err-body
returns-in_err-body c =
    let p = err_from_is_err_and c.from_residual.result c.from_residual.ensures.1 in
    rw (p.1, p.2) (body_fails (header_of c.args.header.now) _ _ _ c.begin_section-section.ensures c.requires refl closed_block_of _ c.read_block.new.lines c.in_err-body.ensures.value)

pub returns-in_err-ended_section : goal.returns-in_err-ended_section
returns-in_err-ended_section c =
    let p = err_from_is_err_and c.from_residual-in_err-ended_section.result c.from_residual-in_err-ended_section.ensures.1 in
    rw (p.1, p.2) (body_open (header_of c.args.header.now) _ _ _ c.begin_section-section.ensures c.requires refl _ _ _ _ c.in_ok-body.ensures.value _ c.in_err-ended_section.ensures)

pub returns : goal.returns
returns c = body_reads (header_of c.args.header.now) _ _ _ c.begin_section-section.ensures c.requires refl _ _ _ _ c.in_ok-body.ensures.value c.in_ok-ended_section.ensures
