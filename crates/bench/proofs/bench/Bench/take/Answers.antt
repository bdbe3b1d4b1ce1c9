use Rattle.std.proofs.Common.{◌≡◌, ℕ, true, Some, None, Err, sym, refl, ap, ◌∙◌, subst, ap₂, arith}
use Rattle.std.proofs.lemmas.Bool.{and_from, eq-eqb}
use Rattle.std.proofs.lemmas.Result.{err_from_is_err_and}
use Rattle.runs.specs.declared.refusal.Refusal.TheVariants.{NothingToOffer}
use Rattle.runs.specs.Lines.{out}
use Rattle.runs.specs.Benches as Model
use Rattle.runs.specs.Benches.{bench, offer}
use Rattle.runs.specs.Steps.{put}
use Rattle.runs.specs.Events.{has_turn, effect}
use Rattle.runs.specs.Calls as Call
use Rattle.runs.specs.Calls.{Answer}
use Rattle.runs.specs.Tests.{fits_turn, fits, own_refusal}
use Rattle.runs.specs.Answers.{granted, answer}
use Rattle.runs.proofs.Changes.{put_run}
use Rattle.runs.proofs.Refusals.{answer_granted}
use Rattle.bench.specs.declared.bench.Bench.{Bench}
use Rattle.bench.specs.Views.{bench_of, going_of}
use Rattle.bench.specs.Turns.{Gives, Takes}
use Rattle.bench.specs.Histories.{LeadsOn}
use Rattle.bench.proofs.Histories.{call_leads_on}
use Rattle.bench.proofs.Calls.{refused_own}
use Rattle.bench.proofs.Worked.{given_out}
use Rattle.bench.proofs.Picks.{nothing_settles, refuses_nothing, grants_some}
use Rattle.bench.proofs.bench.Bench.take.Goals as goal

own_turn : {K : Type 0} {x : Answer × Model.Bench} (b : Bench K) (n : ℕ) → x ≡ (Answer.turn (Call.turn_of (bench_of b).run n), bench_of b) → x ≡ (Answer.turn (Call.turn_of b.run n), bench_of b)
unfolding bench
own_turn b n e = e

own_fits : {K : Type 0} (b : Bench K) (n : ℕ) → has_turn n (bench_of b).line ≡ true → fits_turn (Call.turn_of b.run n) (bench_of b) ≡ true
unfolding bench fits_turn
own_fits b n e = and_from _ _ (eq-eqb b.run b.run refl) e

pub returns-in_err-task : goal.returns-in_err-task
unfolding fits own_refusal
returns-in_err-task g c =
    let b = c.args.self.now in
    let k = g.K.ValueKind.kind b.kind.now in
    let none : c.give.result ≡ None = grind arith in
    let e = subst (λ o. Gives (g.S.Scheduler.choice c.args.scheduler.now) g.S.Scheduler.next c.args.scheduler.now b o c.give.new.scheduler c.give.new.self) none c.give.ensures in
    let same : bench_of b ≡ bench_of c.give.new.self = ap bench_of (sym e.2) in
    let p = err_from_is_err_and c.from_residual.result c.from_residual.ensures.1 in
    let is : c.from_residual.result ≡ Err NothingToOffer = grind arith in
    subst (λ r. Takes k g.S.Scheduler.choice g.S.Scheduler.next c.args.going.now c.args.scheduler.now b r c.give.new.scheduler c.give.new.self) (sym is)
    (record {
      answers =
          refused_own k (Call.take (going_of c.args.going.now) (g.S.Scheduler.choice c.args.scheduler.now)) (bench_of b) NothingToOffer (sym c.admits.ensures ∙ c.if-not-admits.false) (refuses_nothing (offer (bench_of b)) e.0)
          ∙ ap {B = Answer × Model.Bench} (λ (v : Model.Bench). (Answer.refused NothingToOffer, v)) same;
      scheduler = e.1;
      fits = tt;
      goes_on = λ _ s o. nothing_settles (bench_of b) e.0 s o;
      leads_on = subst (LeadsOn k (bench_of b)) same (λ _ _ h. h);
      kind = ap (λ v. v.kind) e.2;
    })

pub returns : goal.returns
unfolding fits own_refusal granted effect
returns g c =
    let b = c.args.self.now in
    let b' = c.give.new.self in
    let n = c.in_ok-task.task in
    let given : c.give.result ≡ Some n = grind arith in
    let e = subst (λ o. Gives (g.S.Scheduler.choice c.args.scheduler.now) g.S.Scheduler.next c.args.scheduler.now b o c.give.new.scheduler b') given c.give.ensures in
    let call = Call.take (going_of c.args.going.now) (g.S.Scheduler.choice c.args.scheduler.now) in
    let same_run : (bench_of b').run ≡ (bench_of b).run = ap (λ (v : Model.Bench). v.run) e.bench ∙ put_run n out (bench_of b) in
    let a : answer _ call (bench_of b) ≡ (Answer.turn (Call.turn_of (bench_of b').run n), bench_of b')
    = answer_granted _ (bench_of b) call (sym c.admits.ensures ∙ c.if-not-admits.false) (grants_some (offer (bench_of b)) e.some_offered)
    ∙ ap {B = Answer × Model.Bench} (λ (i : ℕ). (Answer.turn (Call.turn_of (bench_of b).run i), put i out (bench_of b))) (sym e.number)
    ∙ ap₂ {C = Answer × Model.Bench} (λ (r : ℕ) (v : Model.Bench). (Answer.turn (Call.turn_of r n), v)) (sym same_run) (sym e.bench) in
    record {
      answers = own_turn b' n a;
      scheduler = e.scheduler;
      fits = own_fits b' n (ap (λ (v : Model.Bench). has_turn n v.line) e.bench ∙ given_out (g.S.Scheduler.choice c.args.scheduler.now) (bench_of b) e.number e.allowed);
      goes_on = λ _ _ _. refl;
      leads_on = call_leads_on _ call (bench_of b) _ (g.met.S.Scheduler.inside c.args.scheduler.now) (ap (λ (x : Answer × Model.Bench). x.1) a);
      kind = e.kind;
    }
