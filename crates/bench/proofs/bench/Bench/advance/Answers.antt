use Rattle.std.proofs.Common.{◌≡◌, ℕ, ◌+◌, true, false, length, is_ok, refl, ap, ◌∙◌, arith}
use Rattle.std.specs.Int.{from_bool}
use Rattle.working.specs.Tasks.{Task}
use Rattle.runs.specs.Lines as Model
use Rattle.runs.specs.Benches.{bench}
use Rattle.runs.specs.Events.{has_turn}
use Rattle.tasks.specs.Views.{store_of, tasks_of}
use Rattle.tasks.specs.Steps.{StepOf}
use Rattle.lines.specs.States.{is_finished}
use Rattle.lines.specs.Lines.{state_of, line_of}
use Rattle.lines.proofs.Offered.{turn_live, turn_made, turn_found}
use Rattle.bench.specs.Tasks.{task_at}
use Rattle.bench.specs.Views.{performed}
use Rattle.bench.proofs.Steps.{mapped, some_step, step_of, one_step, within_after, fits_line, still, out_steps, out_answers, out_falls}
use Rattle.bench.proofs.bench.Bench.advance.Given as given
use Rattle.bench.proofs.bench.Bench.advance.Goals.{After-unwrap-progress, After-from}
use Rattle.bench.proofs.bench.Bench.advance.Goals as goal

pub unwrap-progress-requires : goal.unwrap-progress-requires
unfolding bench
unwrap-progress-requires g c =
    let b = c.args.self.now in
    some_step _ c.args.n b.tasks c.step.new.self c.step.result (omega (arith, turn_made b.line (task_at (tasks_of b.tasks)) c.args.n c.requires, b.numbered)) c.step.ensures

-- the step, of the task that has the number
stepped : (g : given.Over) (c : After-unwrap-progress g) → (t : Task) × StepOf (g.K.ValueKind.kind c.args.self.now.kind.now) c.args.n t c.args.self.now.tasks c.unwrap-progress.result c.step.new.self
stepped g c = step_of _ c.args.n c.args.self.now.tasks c.step.new.self c.step.result c.unwrap-progress.result c.unwrap-progress.ensures c.step.ensures

out : (g : given.Over) (c : After-unwrap-progress g) → has_turn c.args.n (line_of c.args.self.now.line (task_at (tasks_of c.args.self.now.tasks))) ≡ true
unfolding bench
out g c = c.requires

live : (g : given.Over) (c : After-unwrap-progress g) → is_finished (state_of c.args.self.now.line c.args.n) ≡ false
live g c = turn_live c.args.self.now.line (task_at (tasks_of c.args.self.now.tasks)) c.args.n (out g c)

pub follow-requires : goal.follow-requires
follow-requires g c =
    let b = c.args.self.now in
    let f = (goal.at.follow-requires g c).After-unwrap-progress in
    let h = stepped g f in
    fits_line _ c.args.n h.0 b.tasks c.step.new.self b.line b.told b.numbered b.objects (live g f) c.unwrap-progress.result h.1

-- the steps that are counted
counts : (g : given.Over) (c : After-from g) → c.from.result ≡ from_bool (is_ok c.unwrap-progress.result)
counts g c = c.from.ensures ∙ ap from_bool c.is_ok.ensures.value

pub invariant_of-self : goal.invariant_of-self
invariant_of-self g c =
    let b = c.args.self.now in
    let f = (goal.at.invariant_of-self g c).After-unwrap-progress in
    let h = stepped g f in
    let s' = c.step.new.self in
    let l' = c.follow.new.line in
    let a = c.unwrap-progress.result in
    let here = turn_found b.line (task_at (tasks_of b.tasks)) c.args.n (out g f) in
    let falls = out_falls _ c.args.n h.0 b.tasks s' b.line b.told b.numbered b.objects (live g f) a h.1 l' c.follow.ensures b.run b.steps b.closed Model.out here refl in
    let still = still _ c.args.n h.0 b.tasks s' b.line b.told b.numbered b.objects (live g f) a h.1 l' c.follow.ensures in
    record {
      told = still.0;
      numbered = still.1;
      objects = still.2;
      within = within_after b.steps c.from.result _ _ (omega (arith, counts g (goal.at.invariant_of-self g c).After-from, one_step a)) b.within falls;
      room = b.room;
    }

pub returns : goal.returns
returns g c =
    let b = c.args.self.now in
    let f = (goal.at.returns g c).After-unwrap-progress in
    let h = stepped g f in
    let s' = c.step.new.self in
    let l' = c.follow.new.line in
    let a = c.unwrap-progress.result in
    let here = turn_found b.line (task_at (tasks_of b.tasks)) c.args.n (out g f) in
    record {
      answer = ap performed (mapped _ c.unwrap-progress.result c.map.result c.map.ensures.cases) ∙ out_answers _ c.args.n h.0 b.tasks s' b.line b.told b.numbered b.objects (live g f) a h.1 l' c.follow.ensures b.run b.steps b.closed Model.out here refl;
      bench =
          ap (λ (i : ℕ). bench b.run (store_of s') (line_of l' (task_at (tasks_of s'))) (length (tasks_of s')) (b.steps + i) b.closed) (counts g (goal.at.returns g c).After-from)
          ∙ out_steps _ c.args.n h.0 b.tasks s' b.line b.told b.numbered b.objects (live g f) a h.1 l' c.follow.ensures b.run b.steps b.closed Model.out here refl;
      kind = refl;
    }
