use Rattle.std.proofs.Common.{◌≡◌, ℕ, ◌<◌, true, List, [], length, sym, refl, ap, ◌∙◌, subst, arith}
use Rattle.std.proofs.lemmas.Bool.{eqb-true}
use Rattle.std.proofs.lemmas.List.{nil_from_length}
use Rattle.working.specs.Tasks.{Task}
use Rattle.runs.specs.Lines.{waiting, out}
use Rattle.runs.specs.Benches.{bench, offer}
use Rattle.runs.specs.Events.{can_take}
use Rattle.runs.specs.Choices.{Chooses, chosen}
use Rattle.runs.specs.Left.{weight}
use Rattle.tasks.specs.Views.{store_of, tasks_of}
use Rattle.lines.specs.Lines.{line_of}
use Rattle.lines.proofs.Offered.{offered_takes}
use Rattle.bench.specs.Tasks.{task_at}
use Rattle.bench.specs.Views.{bench_of}
use Rattle.bench.proofs.Calls.{put_is, put_left}
use Rattle.bench.proofs.Picks.{chosen_below}
use Rattle.bench.proofs.bench.Bench.give.Given as given
use Rattle.bench.proofs.bench.Bench.give.Goals.{After-offer-offer, After-take}
use Rattle.bench.proofs.bench.Bench.give.Goals as goal

-- the choice of the scheduler as it was, and its law
abbrev choice : (g : given.Over) → After-offer-offer g → List ℕ → ℕ
choice g c = g.S.Scheduler.choice c.args.scheduler.now

lawful : (g : given.Over) (c : After-offer-offer g) → Chooses (choice g c)
lawful g c = g.met.S.Scheduler.inside c.args.scheduler.now

offers : (g : given.Over) (c : After-offer-offer g) → c.offer-offer.result.now ≡ offer (bench_of c.args.self.now)
unfolding bench offer
offers g c = c.offer-offer.ensures.items (task_at (tasks_of c.args.self.now.tasks)) c.args.self.now.told

pub returns-then-is_empty : goal.returns-then-is_empty
returns-then-is_empty g c =
    let none : c.offer-offer.result.now ≡ [] = nil_from_length _ (eqb-true _ 0 (sym c.is_empty.ensures ∙ c.if-is_empty.true)) in
    (sym (offers g (goal.at.returns-then-is_empty g c).After-offer-offer) ∙ none, refl, refl)

module _ (g : given.Over) (c : After-take g) where
  abbrev begun : After-offer-offer g
  begun = (goal.at.invariant_of-self g c).After-offer-offer

  abbrev at : ℕ → Task
  at = task_at (tasks_of c.args.self.now.tasks)

  some_offered : 0 < length (offer (bench_of c.args.self.now))
  some_offered = let more : 0 < length c.offer-offer.result.now = grind arith in omega (arith, more, ap length (offers g begun))

  number : c.choose-task.result ≡ chosen (choice g begun) (offer (bench_of c.args.self.now))
  number = c.choose-task.ensures.number ∙ ap (chosen (choice g begun)) (offers g begun)

  -- what is chosen from the offer can be taken
  can_taken : can_take c.choose-task.result (bench_of c.args.self.now).line ≡ true
  unfolding bench offer
  can_taken =
      let b = c.args.self.now in
      let f = choice g begun in
      ap (λ (n : ℕ). can_take n (line_of b.line at)) number
      ∙ offered_takes b.line at b.told (f (offer (bench_of b))) (chosen_below f (lawful g begun) (offer (bench_of b)) some_offered)

  yes : c.take.result ≡ true
  unfolding bench
  yes = c.take.ensures.granted at c.args.self.now.told ∙ can_taken

pub invariant_of-self : goal.invariant_of-self
unfolding weight
invariant_of-self g c =
    let b = c.args.self.now in
    let e = c.take.ensures in
    let n = c.choose-task.result in
    let same = put_left b.run (store_of b.tasks) (line_of b.line (at g c)) (line_of c.take.new.self (at g c)) 0 0 true n (at g c n) waiting out c.take.result (yes g c) (e.found (at g c) (yes g c)) (e.line (at g c)) refl in
    record {
      told = e.tells (at g c) b.told;
      numbered = e.sized.1 ∙ b.numbered;
      objects = e.sized.0 ∙ b.objects;
      within = omega (arith, b.within, same);
      room = b.room;
    }

pub returns : goal.returns
returns g c =
    let f = (goal.at.returns g c).After-take in
    let o = begun g f in
    let b = c.args.self.now in
    let e = c.take.ensures in
    let n = c.choose-task.result in
    record {
      number = number g f;
      some_offered = some_offered g f;
      allowed = can_taken g f;
      bench = put_is b.run (store_of b.tasks) (line_of b.line (at g f)) (line_of c.take.new.self (at g f)) (length (tasks_of b.tasks)) b.steps b.closed n (at g f n) waiting out c.take.result (yes g f) (e.found (at g f) (yes g f)) (e.line (at g f));
      scheduler = subst (λ (ns : List ℕ). g.S.Scheduler.next c.args.scheduler.now ns c.choose-task.new.scheduler) (offers g o) c.choose-task.ensures.state;
      kind = refl;
    }
