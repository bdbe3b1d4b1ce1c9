-- Line after line is appended, at most 512 bytes in all.
use Rattle.std.proofs.Common.{refl}
use Rattle.sheets.proofs.Lines.{line_then}
use Rattle.sheets.proofs.Sizes.{length_run}
use Rattle.sheets.proofs.Steps.{then, stopped}
use Rattle.sheets.proofs.append_run.Goals as goal

pub returns-in_err-line-4-clause-appends : goal.returns-in_err-line-4-clause-appends
returns-in_err-line-4-clause-appends g c =
    then refl c.in_ok-line.ensures
    (then (line_then "tasks" _ _ _ c.format.ensures.text) c.in_ok-line-2.ensures
    (then (line_then "steps" _ _ _ c.format-2.ensures.text) c.in_ok-line-3.ensures
    (stopped _ (line_then "objects" _ _ _ c.format-3.ensures.text) c.from_residual-in_err-line-4.ensures.0 c.in_err-line-4.ensures)))

pub returns-clause-appends : goal.returns-clause-appends
returns-clause-appends g c =
    then refl c.in_ok-line.ensures
    (then (line_then "tasks" _ _ _ c.format.ensures.text) c.in_ok-line-2.ensures
    (then (line_then "steps" _ _ _ c.format-2.ensures.text) c.in_ok-line-3.ensures
    (then (line_then "objects" _ _ _ c.format-3.ensures.text) c.in_ok-line-4.ensures c.numbers.ensures)))

pub returns-in_err-line-clause-short : goal.returns-in_err-line-clause-short
returns-in_err-line-clause-short g c = length_run c.args.words.now (g.met.K.ValueKind.lawful c.args.kind.now) c.ranges.made c.ranges.steps c.type_inv.words

pub returns-in_err-line-2-clause-short : goal.returns-in_err-line-2-clause-short
returns-in_err-line-2-clause-short g c = length_run c.args.words.now (g.met.K.ValueKind.lawful c.args.kind.now) c.ranges.made c.ranges.steps c.type_inv.words

pub returns-in_err-line-3-clause-short : goal.returns-in_err-line-3-clause-short
returns-in_err-line-3-clause-short g c = length_run c.args.words.now (g.met.K.ValueKind.lawful c.args.kind.now) c.ranges.made c.ranges.steps c.type_inv.words

pub returns-in_err-line-4-clause-short : goal.returns-in_err-line-4-clause-short
returns-in_err-line-4-clause-short g c = length_run c.args.words.now (g.met.K.ValueKind.lawful c.args.kind.now) c.ranges.made c.ranges.steps c.type_inv.words

pub returns-clause-short : goal.returns-clause-short
returns-clause-short g c = length_run c.args.words.now (g.met.K.ValueKind.lawful c.args.kind.now) c.ranges.made c.ranges.steps c.type_inv.words
