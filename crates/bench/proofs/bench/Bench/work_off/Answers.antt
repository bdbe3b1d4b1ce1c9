use Rattle.std.proofs.Common.{◌≡◌, true, false, not, eqb, Ok, sym, refl, ap, ◌∙◌, subst, None, Option}
use Rattle.std.proofs.lemmas.Bool.{and_parts, and_from, not_from_false, not-true}
use Rattle.runs.specs.declared.refusal.Refusal.{Refusal}
use Rattle.runs.specs.declared.refusal.Refusal.TheVariants.{Unsettled}
use Rattle.runs.specs.Lines.{any_out}
use Rattle.runs.specs.Benches.{Bench, bench}
use Rattle.runs.specs.Calls.{Going, work_off, Answer}
use Rattle.runs.specs.Tests.{fits_going, fits, own_refusal}
use Rattle.runs.specs.WorkOffs.{ByRefusal, WorkOffAnswers}
use Rattle.runs.proofs.WorkOffs.{going_open}
use Rattle.tasks.specs.Views.{tasks_of}
use Rattle.bench.specs.Tasks.{task_at}
use Rattle.bench.specs.Views.{bench_of, going_of}
use Rattle.bench.specs.Ends.{WorksAll}
use Rattle.bench.proofs.Histories.{work_off_leads_on, settled_agrees}
use Rattle.bench.proofs.Calls.{own_refusal_is, unless_true}
use Rattle.bench.proofs.bench.Bench.work_off.Given as given
use Rattle.bench.proofs.bench.Bench.work_off.Goals.{In_ok-going-2}
use Rattle.bench.proofs.bench.Bench.work_off.Goals as goal

-- a state that fits goes on fitting
still_fits : (h : Going) (b b' : Bench) → b'.run ≡ b.run → b'.closed ≡ false → fits_going h b ≡ true → fits_going h b' ≡ true
unfolding fits_going
still_fits h b b' e z f = and_from _ _ (ap (eqb h.run) e ∙ (and_parts (eqb h.run b.run) (not b.closed) f).0) (not_from_false _ z)

module _ (g : given.Over) (c : In_ok-going-2 g) where
  -- the state is the run's, which goes on
  fit : fits_going (going_of c.args.going) (bench_of c.args.self.now) ≡ true
  fit = sym c.admits.ensures ∙ sym c.in_ok-going.ensures.granted

  none_out : not (any_out (bench_of c.args.self.now).line) ≡ true
  unfolding bench
  none_out = ap not (sym (c.any_out.ensures (task_at (tasks_of c.args.self.now.tasks)))) ∙ sym c.in_ok-going-2.ensures.granted

pub settle-requires : goal.settle-requires
settle-requires g c =
    let f = (goal.at.settle-requires g c).In_ok-going-2 in
    record { none_out = not-true _ (none_out g f); going_on = going_open (going_of c.args.going) (bench_of c.args.self.now) (fit g f) }

pub returns : goal.returns
unfolding fits own_refusal
returns g c =
    let f = (goal.at.returns g c).In_ok-going-2 in
    let s = c.args.scheduler.now in
    let s' = c.settle.new.scheduler in
    let b = bench_of c.args.self.now in
    let b' = bench_of c.settle.new.self in
    let e = c.settle.ensures in
    let law = g.met.K.ValueKind.lawful c.args.self.now.kind.now in
    let k = g.K.ValueKind.kind c.args.self.now.kind.now in
    let call = going_of c.args.going in
    let same : c.in_ok-going-2.going ≡ c.args.going = c.in_ok-going-2.ensures.ok ∙ c.in_ok-going.ensures.ok in
    let o = own_refusal_is k (work_off call (λ i. g.S.Scheduler.choice s)) b None (fit g f) (unless_true _ Unsettled (none_out g f)) in
    let a : WorkOffAnswers k g.row.S.Denot g.S.Scheduler.choice g.S.Scheduler.next call s b (Answer.going call) s' b'
    = subst (λ (x : Option Refusal). ByRefusal k g.row.S.Denot g.S.Scheduler.choice g.S.Scheduler.next x call s b (Answer.going call) s' b') (sym o) (refl, e.works) in
    subst (λ h. WorksAll k g.S.Scheduler.choice g.S.Scheduler.next c.args.going s c.args.self.now (Ok h) s' c.settle.new.self) (sym same)
    (record {
      answers = a;
      back = tt;
      fits = still_fits call b b' e.run e.going_on (fit g f);
      rests = e.rests;
      agrees = settled_agrees k law b' e.rests.settled_yet;
      leads_on = work_off_leads_on k law g.row.S.Denot g.S.Scheduler.choice g.S.Scheduler.next g.met.S.Scheduler.inside call s s' b b' (Answer.going call) a;
      kind = e.kind;
    })
