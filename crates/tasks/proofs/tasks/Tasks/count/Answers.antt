use Rattle.std.proofs.Common.{sym, ◌∙◌, arith}
use Rattle.tasks.proofs.Numbered.{length_tasks}
use Rattle.tasks.proofs.tasks.Tasks.count.Goals as goal

pub returns : goal.returns
returns c = let s = c.args.self.now in record { number = c.len.ensures ∙ sym (length_tasks s); most = omega (arith, c.len.ensures, s.few) }
