use Rattle.std.proofs.Common.{◌≡◌, true, eqb, length, sym, refl, ap, ◌∙◌, arith}
use Rattle.std.proofs.lemmas.Bool.{and_parts}
use Rattle.runs.specs.Lines.{waiting, out}
use Rattle.runs.specs.Benches as Model
use Rattle.runs.specs.Benches.{bench}
use Rattle.runs.specs.Events.{effect}
use Rattle.runs.specs.Left.{weight}
use Rattle.runs.specs.Calls.{hand_back, Answer}
use Rattle.runs.specs.Tests.{fits_turn, fits, own_refusal}
use Rattle.runs.specs.Answers.{granted, answer}
use Rattle.runs.proofs.Refusals.{answer_granted}
use Rattle.tasks.specs.Views.{store_of, tasks_of}
use Rattle.lines.specs.Lines.{line_of}
use Rattle.bench.specs.Tasks.{task_at}
use Rattle.bench.specs.Views.{bench_of, turn_of}
use Rattle.bench.proofs.Histories.{call_leads_on}
use Rattle.bench.proofs.Calls.{put_is, put_left}
use Rattle.bench.proofs.bench.Bench.hand_back.Given as given
use Rattle.bench.proofs.bench.Bench.hand_back.Goals.{After-hand_back}
use Rattle.bench.proofs.bench.Bench.hand_back.Goals as goal

module _ (g : given.Over) (c : After-hand_back g) where
  same : c.in_ok-turn.turn ≡ c.args.turn
  same = c.in_ok-turn.ensures.ok

  known : fits_turn (turn_of c.in_ok-turn.turn) (bench_of c.args.self.now) ≡ true
  known = ap (λ t. fits_turn (turn_of t) (bench_of c.args.self.now)) same ∙ sym c.knows.ensures ∙ sym c.in_ok-turn.ensures.granted

  -- the turn was out
  yes : c.hand_back.result ≡ true
  unfolding bench fits_turn
  yes = c.hand_back.ensures.granted (task_at (tasks_of c.args.self.now.tasks)) ∙ (and_parts (eqb c.in_ok-turn.turn.run c.args.self.now.run) _ known).1

pub invariant_of-self : goal.invariant_of-self
unfolding weight
invariant_of-self g c =
    let b = c.args.self.now in
    let e = c.hand_back.ensures in
    let t = task_at (tasks_of b.tasks) in
    let n = c.in_ok-turn.turn.task in
    let same = put_left b.run (store_of b.tasks) (line_of b.line t) (line_of c.hand_back.new.self t) 0 0 true n (t n) out waiting c.hand_back.result (yes g c) (e.found t (yes g c)) (e.line t) refl in
    record {
      told = e.tells t b.told;
      numbered = e.sized.1 ∙ b.numbered;
      objects = e.sized.0 ∙ b.objects;
      within = omega (arith, b.within, same);
      room = b.room;
    }

pub returns : goal.returns
unfolding fits own_refusal granted effect
returns g c =
    let f = (goal.at.returns g c).After-hand_back in
    let b = c.args.self.now in
    let e = c.hand_back.ensures in
    let t = task_at (tasks_of b.tasks) in
    let n = c.in_ok-turn.turn.task in
    let l' = line_of c.hand_back.new.self t in
    let is = put_is b.run (store_of b.tasks) (line_of b.line t) l' (length (tasks_of b.tasks)) b.steps b.closed n (t n) out waiting c.hand_back.result (yes g f) (e.found t (yes g f)) (e.line t) in
    let a : answer _ (hand_back (turn_of c.in_ok-turn.turn)) (bench_of b) ≡ (Answer.returned, bench b.run (store_of b.tasks) l' (length (tasks_of b.tasks)) b.steps b.closed)
    = answer_granted _ (bench_of b) (hand_back (turn_of c.in_ok-turn.turn)) (known g f) refl ∙ ap {B = Answer × Model.Bench} (λ (v : Model.Bench). (Answer.returned, v)) (sym is) in
    record {
      answers = ap (λ t. answer (g.K.ValueKind.kind b.kind.now) (hand_back (turn_of t)) (bench_of b)) (sym (same g f)) ∙ a;
      back = tt;
      leads_on = call_leads_on _ (hand_back (turn_of c.in_ok-turn.turn)) (bench_of b) _ tt (ap (λ (x : Answer × Model.Bench). x.1) a);
      kind = refl;
    }
