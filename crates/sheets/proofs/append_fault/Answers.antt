use Rattle.std.proofs.Common.{refl}
use Rattle.sheets.proofs.Lines.{line_then}
use Rattle.sheets.proofs.Steps.{then}
use Rattle.sheets.proofs.append_fault.Goals as goal

pub returns-clause-appends : goal.returns-clause-appends
returns-clause-appends c =
    then refl c.in_ok-line.ensures
    (then (line_then "kind" _ _ _ c.fault_name.ensures) c.in_ok-line-2.ensures
    (then (line_then "line" _ _ _ c.format.ensures.text) c.in_ok-line-3.ensures c.task.ensures))
