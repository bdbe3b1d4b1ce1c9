use Rattle.std.proofs.Common.{ap, ◌∙◌}
use Rattle.lines.specs.States.{is_stuck}
use Rattle.lines.specs.Lines.{state_of, line_of}
use Rattle.lines.proofs.Standing.{settled_some}
use Rattle.lines.proofs.line.Line.is_settled.Goals as goal

pub returns-in-Some : goal.returns-in-Some
returns-in-Some c = λ t.
    let p = c.in-Some.ensures t in
    settled_some (line_of c.args.self.now t) p.0 c.in-Some.n (state_of c.args.self.now c.in-Some.n) (t c.in-Some.n) c.is_stuck.result (c.is_stuck.ensures ∙ ap is_stuck c.state.ensures) p.1
