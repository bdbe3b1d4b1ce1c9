use Rattle.std.proofs.Common.{◌≡◌, ℕ, ◌<◌, ◌≤◌, List, length, vec_items, sym, refl, ap, ◌∙◌, ap₂, arith, length-take}
use Rattle.kinds.specs.Kinds.{Kind}
use Rattle.sheets.specs.Sheets.{run_sheet, fault_sheet}
use Rattle.runs.specs.BenchSheets.{bench_sheet}
use Rattle.tasks.specs.Views.{store_of, tasks_of}
use Rattle.lines.specs.States.{is_finished}
use Rattle.lines.specs.Lines.{state_of, line_of}
use Rattle.lines.proofs.Offered.{live_made}
use Rattle.bench.specs.declared.bench.Bench.{Bench}
use Rattle.bench.specs.Tasks.{task_at}
use Rattle.bench.specs.Views.{bench_of}
use Rattle.bench.specs.Sheets.{Fills}
use Rattle.bench.proofs.Pages.{appended, sheet_words, sheet_fault, sheet_none, place_some, place_is}
use Rattle.bench.proofs.bench.Bench.fill_page.Given as given
use Rattle.bench.proofs.bench.Bench.fill_page.Goals.{In-Stuck}
use Rattle.bench.proofs.bench.Bench.fill_page.Goals as goal

-- the first in line was made
made : (g : given.Over) (c : In-Stuck g) → c.in-Some.n < length (tasks_of c.args.self.now.tasks)
made g c = let b = c.args.self.now in omega (arith, b.numbered, live_made b.line c.in-Some.n (ap is_finished (sym c.in-Stuck.ensures)))

pub unwrap-place-requires : goal.unwrap-place-requires
unwrap-place-requires g c = place_some (tasks_of c.args.self.now.tasks) c.in-Some.n c.place.result c.place.ensures (made g (goal.at.unwrap-place-requires g c).In-Stuck)

-- what was appended is the sheet
filled : {K : Type 0} {k : Kind} {b b' : Bench K} {text : List ℕ} → vec_items b'.page ≡ text → length text ≤ 512 → text ≡ bench_sheet k (bench_of b) → bench_of b' ≡ bench_of b → b'.kind ≡ b.kind → Fills k b b'
filled page short is same kind = record { sheet = page ∙ is; short = omega (arith, short, ap length is); bench = same; kind = kind }

pub returns-in-None : goal.returns-in-None
returns-in-None g c =
    let b = c.args.self.now in
    let t = task_at (tasks_of b.tasks) in
    let k = g.K.ValueKind.kind b.kind.now in
    filled
    (appended c.clear.new.self c.append_run.new.out _ c.append_run.result c.unwrap.result c.unwrap.ensures c.append_run.ensures.appends c.clear.ensures.items)
    (c.append_run.ensures.short (omega (arith, ap length c.words.ensures, b.tasks.store.ok.0, b.tasks.objects)))
    (ap₂ (λ (n : ℕ) (ws : List ℕ). run_sheet k n b.steps ws) (c.from-made.ensures ∙ c.count.ensures.number) c.words.ensures
    ∙ sym (sheet_words k b.run (store_of b.tasks) (line_of b.line t) (length (tasks_of b.tasks)) b.steps b.closed (c.in-None.ensures t)))
    refl refl

pub returns-in-Stuck : goal.returns-in-Stuck
returns-in-Stuck g c =
    let b = c.args.self.now in
    let t = task_at (tasks_of b.tasks) in
    let n = c.in-Some.n in
    let p = c.unwrap-place.result in
    let k = g.K.ValueKind.kind b.kind.now in
    let w = c.in-Some.ensures t in
    filled
    (appended c.clear.new.self c.append_fault.new.out _ c.append_fault.result c.unwrap-in-Stuck.result c.unwrap-in-Stuck.ensures c.append_fault.ensures.appends c.clear.ensures.items)
    (c.append_fault.ensures.short (omega (arith, ap length c.ranks.ensures, simp length-take at (ap length c.ranks.ensures), p.short)))
    (ap (fault_sheet c.in-Stuck.fault.kind c.in-Stuck.fault.line) (c.ranks.ensures ∙ place_is (tasks_of b.tasks) n c.place.result c.place.ensures (made g (goal.at.returns-in-Stuck g c).In-Stuck) p c.unwrap-place.ensures)
    ∙ sym (sheet_fault k b.run (store_of b.tasks) (line_of b.line t) (length (tasks_of b.tasks)) b.steps b.closed n (state_of b.line n) (t n) w.0 w.1 c.in-Stuck.fault (sym c.in-Stuck.ensures)))
    refl refl

pub returns-in_default : goal.returns-in_default
returns-in_default g c =
    let b = c.args.self.now in
    let t = task_at (tasks_of b.tasks) in
    let n = c.in-Some.n in
    let k = g.K.ValueKind.kind b.kind.now in
    let w = c.in-Some.ensures t in
    filled c.clear.ensures.items (omega arith)
    (sym (sheet_none k b.run (store_of b.tasks) (line_of b.line t) (length (tasks_of b.tasks)) b.steps b.closed n (state_of b.line n) (t n) w.0 w.1 (λ f e. c.in_default.not-Stuck f (c.state.ensures ∙ e))))
    refl refl
