use Rattle.std.proofs.Common.{◌≡◌, ℕ, false, List, sym, refl, ◌∙◌, subst, arith}
use Rattle.working.specs.Tasks.{Task}
use Rattle.runs.specs.Ready.{offered}
use Rattle.runs.specs.Benches.{bench, offer, settled_line, settled}
use Rattle.tasks.specs.Views.{tasks_of}
use Rattle.lines.specs.declared.line.Line.{Line}
use Rattle.lines.specs.Lines.{line_of, Tells}
use Rattle.bench.specs.declared.bench.Bench.{Bench}
use Rattle.bench.specs.Tasks.{task_at}
use Rattle.bench.specs.Views.{bench_of}
use Rattle.bench.specs.Ends.{TurnsOnce}
use Rattle.bench.proofs.Worked.{working_none, working_more}
use Rattle.bench.proofs.bench.Bench.turns.Goals as goal

pub loop-offered-init : goal.loop-offered-init
loop-offered-init g c = (working_none c.requires.at_work, refl, omega arith)

-- the line is as it was, so what was offered still is, and the run is not settled
still_offered : {K : Type 0} (b b₀ : Bench K) (ns : List ℕ) → b.line ≡ b₀.line → ((t : ℕ → Task) → Tells b₀.line t → ns ≡ offered (line_of b₀.line t) (line_of b₀.line t)) → ns ≡ offer (bench_of b)
unfolding bench offer
still_offered b b₀ ns e h = subst (λ (l : Line). (t : ℕ → Task) → Tells l t → ns ≡ offered (line_of l t) (line_of l t)) (sym e) h (task_at (tasks_of b.tasks)) b.told

still_unsettled : {K : Type 0} (b b₀ : Bench K) → b.line ≡ b₀.line → ((t : ℕ → Task) → settled_line (line_of b₀.line t) ≡ false) → settled (bench_of b) ≡ false
unfolding bench settled
still_unsettled b b₀ e h = subst (λ (l : Line). (t : ℕ → Task) → settled_line (line_of l t) ≡ false) (sym e) h (task_at (tasks_of b.tasks))

pub turn-requires : goal.turn-requires
turn-requires g c =
    let i = c.loop-offered.invariant in
    record {
      all = still_offered c.loop-offered.self c.args.self.now _ i.1 c.offer-offered.ensures.items;
      unsettled = still_unsettled c.loop-offered.self c.args.self.now i.1 c.requires.unsettled;
      at_work = i.0.at_work;
    }

pub loop-offered-preserved : goal.loop-offered-preserved
loop-offered-preserved g c =
    let i = c.loop-offered.invariant in
    let t = subst (λ κ. TurnsOnce (g.K.ValueKind.kind κ.now) g.S.Scheduler.choice g.S.Scheduler.next c.loop-offered.scheduler c.loop-offered.self c.turn.new.scheduler c.turn.new.self) i.0.kind c.turn.ensures.turns in
    (working_more i.0 (still_unsettled c.loop-offered.self c.args.self.now i.1 c.requires.unsettled) t, c.turn.ensures.stays c.loop-offered-test.true ∙ i.1, omega (arith, i.2, t.falls))

pub returns : goal.returns
returns g c =
    let i = c.loop-offered.invariant in
    let t = subst (λ κ. TurnsOnce (g.K.ValueKind.kind κ.now) g.S.Scheduler.choice g.S.Scheduler.next c.loop-offered.scheduler c.loop-offered.self c.turn.new.scheduler c.turn.new.self) i.0.kind c.turn.ensures.turns in
    record { works = working_more i.0 (still_unsettled c.loop-offered.self c.args.self.now i.1 c.requires.unsettled) t; falls = omega (arith, i.2, t.falls) }
