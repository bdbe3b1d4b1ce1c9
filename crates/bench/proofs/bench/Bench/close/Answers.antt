use Rattle.std.proofs.Common.{◌≡◌, ℕ, Bool, not, ◌&&◌, eqb, sym, refl, ap, ◌∙◌, ap₂}
use Rattle.std.proofs.lemmas.Bool.{and_parts, and_from, eqb-true, eq-eqb}
use Rattle.runs.specs.declared.refusal.Refusal.TheVariants.{Unsettled}
use Rattle.runs.specs.Benches as Model
use Rattle.runs.specs.Benches.{bench, settled}
use Rattle.runs.specs.Steps.{shut}
use Rattle.runs.specs.Events.{can_close, effect}
use Rattle.runs.specs.Calls as Call
use Rattle.runs.specs.Calls.{close, Answer}
use Rattle.runs.specs.Tests.{fits_going, fits_closed, fits, own_refusal}
use Rattle.runs.specs.Answers.{granted, answer}
use Rattle.runs.proofs.Refusals.{answer_granted}
use Rattle.tasks.specs.Views.{tasks_of}
use Rattle.bench.specs.declared.tokens.Going.{Going}
use Rattle.bench.specs.Tasks.{task_at}
use Rattle.bench.specs.Views.{bench_of, going_of}
use Rattle.bench.proofs.Histories.{call_leads_on, settled_agrees}
use Rattle.bench.proofs.Calls.{unless_true}
use Rattle.bench.proofs.bench.Bench.close.Given as given
use Rattle.bench.proofs.bench.Bench.close.Goals.{After-any_out}
use Rattle.bench.proofs.bench.Bench.close.Goals as goal

-- the test is the model's
can : (g : given.Over) (c : After-any_out g) → (c.is_settled.result && not c.any_out.result) ≡ can_close (bench_of c.args.self.now)
unfolding bench settled can_close
can g c = let t = task_at (tasks_of c.args.self.now.tasks) in ap₂ (λ (x y : Bool). x && not y) (c.is_settled.ensures t) (c.any_out.ensures t)

pub returns : goal.returns
unfolding bench settled can_close shut fits fits_going fits_closed own_refusal granted effect
returns g c =
    let b = c.args.self.now in
    let yes = sym (can g (goal.at.returns g c).After-any_out) ∙ sym c.in_ok-going-2.ensures.granted in
    let fit = sym c.admits.ensures ∙ sym c.in_ok-going.ensures.granted in
    let given : c.in_ok-going-2.going.run ≡ c.args.going.run = ap (λ (h : Going). h.run) (c.in_ok-going-2.ensures.ok ∙ c.in_ok-going.ensures.ok) in
    let own : c.args.going.run ≡ b.run = eqb-true c.args.going.run b.run (and_parts (eqb c.args.going.run b.run) (not b.closed) fit).0 in
    let a : answer _ (close (going_of c.args.going)) (bench_of b) ≡ (Answer.closed (Call.closed_state c.in_ok-going-2.going.run), shut (bench_of b))
    = answer_granted _ (bench_of b) (close (going_of c.args.going)) fit (unless_true _ Unsettled yes) ∙ ap {B = Answer × Model.Bench} (λ (r : ℕ). (Answer.closed (Call.closed_state r), shut (bench_of b))) (sym (given ∙ own)) in
    record {
      answers = a;
      back = tt;
      fits = and_from _ _ (eq-eqb c.in_ok-going-2.going.run b.run (given ∙ own)) refl;
      agrees = settled_agrees _ (g.met.K.ValueKind.lawful b.kind.now) (shut (bench_of b)) (and_parts (settled (bench_of b)) _ yes).0;
      leads_on = call_leads_on _ (close (going_of c.args.going)) (bench_of b) _ tt (ap (λ (x : Answer × Model.Bench). x.1) a);
      kind = refl;
    }
