use Rattle.std.proofs.Common.{◌≡◌, ℕ, ◌+◌, ◌<◌, true, List, length, is_ok, refl, ap, ◌∙◌, subst, arith}
use Rattle.std.specs.Int.{from_bool}
use Rattle.working.specs.Tasks.{Task}
use Rattle.runs.specs.Lines.{waiting, out}
use Rattle.runs.specs.Benches as Model
use Rattle.runs.specs.Benches.{bench, offer, settled}
use Rattle.runs.specs.Steps.{put, advanced}
use Rattle.runs.specs.Events.{can_take}
use Rattle.runs.specs.Choices.{chosen}
use Rattle.runs.specs.Left.{left}
use Rattle.tasks.specs.Views.{store_of, tasks_of}
use Rattle.tasks.specs.Steps.{StepOf}
use Rattle.lines.specs.Lines.{line_of}
use Rattle.lines.proofs.Offered.{offered_takes}
use Rattle.lines.proofs.Quiet.{take_waits, take_live, take_made, take_found}
use Rattle.bench.specs.Tasks.{task_at}
use Rattle.bench.specs.Views.{bench_of}
use Rattle.bench.proofs.Picks.{unsettled_offers, chosen_below}
use Rattle.bench.proofs.Steps.{some_step, step_of, one_step, within_after, fits_line, still, turn_steps}
use Rattle.bench.proofs.Worked.{turned_is, turned_on, turned_run, turned_falls}
use Rattle.bench.proofs.bench.Bench.turn.Given as given
use Rattle.bench.proofs.bench.Bench.turn.Goals.{After-choose-n, After-unwrap-progress, After-from}
use Rattle.bench.proofs.bench.Bench.turn.Goals as goal

pub choose-n-requires : goal.choose-n-requires
choose-n-requires g c =
    omega (arith, ap length c.requires.all, unsettled_offers (bench_of c.args.self.now) c.requires.unsettled c.requires.at_work.none_out)

module _ (g : given.Over) (c : After-choose-n g) where
  abbrev choice : List ℕ → ℕ
  choice = g.S.Scheduler.choice c.args.scheduler.now

  some : 0 < length (offer (bench_of c.args.self.now))
  some = unsettled_offers (bench_of c.args.self.now) c.requires.unsettled c.requires.at_work.none_out

  abbrev at : ℕ → Task
  at = task_at (tasks_of c.args.self.now.tasks)

  number : c.choose-n.result ≡ chosen choice (offer (bench_of c.args.self.now))
  number = c.choose-n.ensures.number ∙ ap (chosen choice) c.requires.all

  can : can_take c.choose-n.result (line_of c.args.self.now.line at) ≡ true
  unfolding bench offer
  can =
      let b = c.args.self.now in
      ap (λ (i : ℕ). can_take i (line_of b.line at)) number
      ∙ offered_takes b.line at b.told (choice (offer (bench_of b))) (chosen_below choice (g.met.S.Scheduler.inside c.args.scheduler.now) (offer (bench_of b)) some)

pub unwrap-progress-requires : goal.unwrap-progress-requires
unwrap-progress-requires g c =
    let b = c.args.self.now in
    let f = (goal.at.unwrap-progress-requires g c).After-choose-n in
    some_step _ c.choose-n.result b.tasks c.step.new.self c.step.result (omega (arith, take_made b.line (at g f) c.choose-n.result b.told (can g f), b.numbered)) c.step.ensures

-- the step, of the task that has the number
stepped : (g : given.Over) (c : After-unwrap-progress g) → (t : Task) × StepOf (g.K.ValueKind.kind c.args.self.now.kind.now) c.choose-n.result t c.args.self.now.tasks c.unwrap-progress.result c.step.new.self
stepped g c = step_of _ c.choose-n.result c.args.self.now.tasks c.step.new.self c.step.result c.unwrap-progress.result c.unwrap-progress.ensures c.step.ensures

pub follow_waiting-stays-requires : goal.follow_waiting-stays-requires
follow_waiting-stays-requires g c =
    let b = c.args.self.now in
    let p = (goal.at.follow_waiting-stays-requires g c).After-choose-n in
    let h = stepped g (goal.at.follow_waiting-stays-requires g c).After-unwrap-progress in
    record {
      fits = fits_line _ c.choose-n.result h.0 b.tasks c.step.new.self b.line b.told b.numbered b.objects (take_live b.line (at g p) c.choose-n.result b.told (can g p)) c.unwrap-progress.result h.1;
      waits = take_waits b.line (at g p) c.choose-n.result b.told (can g p);
    }

module _ (g : given.Over) (c : After-from g) where
  abbrev placed : After-choose-n g
  placed = (goal.at.invariant_of-self g c).After-choose-n

  abbrev h : (t : Task) × StepOf (g.K.ValueKind.kind c.args.self.now.kind.now) c.choose-n.result t c.args.self.now.tasks c.unwrap-progress.result c.step.new.self
  h = stepped g (goal.at.invariant_of-self g c).After-unwrap-progress

  abbrev came : Model.Bench
  came =
      let b = c.args.self.now in
      let s' = c.step.new.self in
      bench b.run (store_of s') (line_of c.follow_waiting-stays.new.line (task_at (tasks_of s'))) (length (tasks_of s')) (b.steps + c.from.result) b.closed

  counts : c.from.result ≡ from_bool (is_ok c.unwrap-progress.result)
  counts = c.from.ensures ∙ ap from_bool c.is_ok.ensures.value

  -- the turn of the chosen task was taken and performed
  performs : came ≡ advanced (g.K.ValueKind.kind c.args.self.now.kind.now) c.choose-n.result (put c.choose-n.result out (bench_of c.args.self.now))
  performs =
      let b = c.args.self.now in
      let s' = c.step.new.self in
      let l' = c.follow_waiting-stays.new.line in
      ap (λ (i : ℕ). bench b.run (store_of s') (line_of l' (task_at (tasks_of s'))) (length (tasks_of s')) (b.steps + i) b.closed) counts
      ∙ turn_steps _ c.choose-n.result h.0 b.tasks s' b.line b.told b.numbered b.objects (take_live b.line (at g placed) c.choose-n.result b.told (can g placed)) c.unwrap-progress.result h.1 l' c.follow_waiting-stays.ensures.followed
      b.run b.steps b.closed waiting (take_found b.line (at g placed) c.choose-n.result b.told (can g placed))

  -- by the model's own words
  can_model : can_take c.choose-n.result (bench_of c.args.self.now).line ≡ true
  unfolding bench
  can_model = can g placed

  falls : left (line_of c.follow_waiting-stays.new.line (task_at (tasks_of c.step.new.self))) < left (line_of c.args.self.now.line (at g placed))
  unfolding bench
  falls = turned_falls (choice g placed) (bench_of c.args.self.now) (number g placed) can_model _ came performs c.requires.at_work

pub invariant_of-self : goal.invariant_of-self
invariant_of-self g c =
    let b = c.args.self.now in
    let p = placed g c in
    let s' = c.step.new.self in
    let l' = c.follow_waiting-stays.new.line in
    let a = c.unwrap-progress.result in
    let live = take_live b.line (at g p) c.choose-n.result b.told (can g p) in
    let f = c.follow_waiting-stays.ensures.followed in
    let still = still _ c.choose-n.result (h g c).0 b.tasks s' b.line b.told b.numbered b.objects live a (h g c).1 l' f in
    record {
      told = still.0;
      numbered = still.1;
      objects = still.2;
      within = within_after b.steps c.from.result _ _ (omega (arith, counts g c, one_step a)) b.within (falls g c);
      room = b.room;
    }

pub returns : goal.returns
returns g c =
    let f = (goal.at.returns g c).After-from in
    let p = placed g f in
    let b = bench_of c.args.self.now in
    let choose = choice g p in
    record {
      turns = record {
        bench = turned_is choose b (number g p) (can_model g f) _ (came g f) (performs g f) c.requires.at_work;
        scheduler = subst (λ (ns : List ℕ). g.S.Scheduler.next c.args.scheduler.now ns c.choose-n.new.scheduler) c.requires.all c.choose-n.ensures.state;
        at_work = turned_on choose b (number g p) (can_model g f) _ (came g f) (performs g f) c.requires.at_work;
        falls = turned_falls choose b (number g p) (can_model g f) _ (came g f) (performs g f) c.requires.at_work;
        run = turned_run choose b (number g p) (can_model g f) _ (came g f) (performs g f) c.requires.at_work;
        kind = refl;
      };
      stays = c.follow_waiting-stays.ensures.stays;
    }
