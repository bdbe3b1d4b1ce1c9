use Rattle.std.proofs.Common.{◌≡◌, true, eqb, sym, refl, ap, ◌∙◌, subst, ap₂}
use Rattle.std.proofs.lemmas.Bool.{and_parts}
use Rattle.runs.specs.Benches as Model
use Rattle.runs.specs.Benches.{bench}
use Rattle.runs.specs.Events.{has_turn, effect}
use Rattle.runs.specs.Calls.{perform, Answer}
use Rattle.runs.specs.Tests.{fits_turn, fits, own_refusal}
use Rattle.runs.specs.Answers.{granted, answer}
use Rattle.runs.proofs.Refusals.{answer_granted}
use Rattle.tasks.specs.Views.{tasks_of}
use Rattle.lines.proofs.Offered.{turn_found, turn_ready}
use Rattle.bench.specs.declared.tokens.Turn.{Turn}
use Rattle.bench.specs.Tasks.{task_at}
use Rattle.bench.specs.Views.{bench_of, turn_of, performed}
use Rattle.bench.specs.Advances.{Advances}
use Rattle.bench.proofs.Histories.{call_leads_on}
use Rattle.bench.proofs.bench.Bench.perform.Given as given
use Rattle.bench.proofs.bench.Bench.perform.Goals.{In_ok-turn}
use Rattle.bench.proofs.bench.Bench.perform.Goals as goal

module _ (g : given.Over) (c : In_ok-turn g) where
  known : fits_turn (turn_of c.args.turn) (bench_of c.args.self.now) ≡ true
  known = sym c.knows.ensures ∙ sym c.in_ok-turn.ensures.granted

  out : has_turn c.args.turn.task (bench_of c.args.self.now).line ≡ true
  unfolding fits_turn
  out = (and_parts (eqb c.args.turn.run (bench_of c.args.self.now).run) _ known).1

pub returns : goal.returns
unfolding bench fits own_refusal granted effect
returns g c =
    let f = (goal.at.returns g c).In_ok-turn in
    let b = c.args.self.now in
    let t = task_at (tasks_of b.tasks) in
    let n = c.args.turn.task in
    let e = subst (λ (t : Turn). Advances (g.K.ValueKind.kind b.kind.now) t.task b c.advance.result c.advance.new.self) c.in_ok-turn.ensures.ok c.advance.ensures in
    let a : answer _ (perform (turn_of c.args.turn)) (bench_of b) ≡ (performed c.advance.result, bench_of c.advance.new.self)
    = answer_granted _ (bench_of b) (perform (turn_of c.args.turn)) (known g f) refl ∙ ap₂ {C = Answer × Model.Bench} (λ (x : Answer) (v : Model.Bench). (x, v)) (sym e.answer) (sym e.bench) in
    record {
      answers = a;
      back = tt;
      was_ready = (_, turn_found b.line t n (out g f), turn_ready b.line t n (out g f) b.told);
      leads_on = call_leads_on _ (perform (turn_of c.args.turn)) (bench_of b) _ tt (ap (λ (x : Answer × Model.Bench). x.1) a);
      kind = e.kind;
    }
