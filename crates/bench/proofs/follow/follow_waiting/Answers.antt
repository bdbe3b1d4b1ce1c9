use Rattle.std.proofs.Common.{◌≡◌, Ok, Result, sym, refl, ap, ◌∙◌, subst, arith}
use Rattle.std.proofs.lemmas.Bool.{both_ways}
use Rattle.working.specs.declared.fault.Fault.{Fault}
use Rattle.tasks.specs.declared.step.Progress.{Progress}
use Rattle.tasks.specs.declared.step.Progress.TheVariants.{Went}
use Rattle.tasks.specs.Views.{tasks_of}
use Rattle.lines.proofs.Quiet.{quiet_line, quiet_tells}
use Rattle.bench.specs.Follows.{Followed}
use Rattle.bench.proofs.follow.follow_waiting.Goals.{in-Ok-Went, in_default, in_default-2}
use Rattle.bench.proofs.follow.follow_waiting.Goals as goal

pub returns-else-not-stays-clause-followed : goal.returns-else-not-stays-clause-followed
returns-else-not-stays-clause-followed c =
    let l = c.args.line.now in
    elim c.match-matches.branch [
      | in-Ok-Went w ↦
          let went : c.args.progress ≡ Ok Went = w.in-Ok-Went.is ∙ ap Ok (rw w.in-Ok-Went.is at w.in-Ok-Went.field-0-is) in
          subst (λ (p : Result Progress Fault). Followed (tasks_of c.args.tasks.now) c.args.n p l l) (sym went)
          (record {
            line = λ t u d. quiet_line l t u c.args.n c.requires.waits d;
            tells = λ t u d e h. quiet_tells l t u c.args.n d e h;
            objects = refl;
            made = omega arith;
          })
      | in_default w ↦ absurd (both_ways _ w.matches-is c.if-not-stays.false)
      | in_default-2 w ↦ absurd (both_ways _ w.matches-is c.if-not-stays.false)
    ]
