use Rattle.std.proofs.Common.{◌≡◌, ℕ, List, ◌++◌, length, take, Result, sym, ap, ◌∙◌, subst, arith}
use lib.ListN.{length-replicate}
use Rattle.std.proofs.lemmas.List.{take_at}
use Rattle.std.proofs.lemmas.Result.{IfOk-at_ok, err_from_is_err_and}
use Rattle.kinds.specs.Kinds.{Kind}
use Rattle.cards.specs.Cards.{card_of}
use Rattle.sheets.specs.Sheets.{sheet_of}
use Rattle.bench.specs.Views.{bench_of}
use Rattle.bench.specs.Ends.{WorksAll, Closes}
use Rattle.bench.specs.Sheets.{SerialSheet, Writes}
use Rattle.bench.proofs.Granted.{work_off_ok, close_ok}
use Rattle.runner.proofs.bench_sheet.Given as given
use Rattle.runner.proofs.bench_sheet.Goals.{After-work_off, After-close, After-sheet}
use Rattle.runner.proofs.bench_sheet.Goals as goal

pub returns-in_err-bench : goal.returns-in_err-bench
returns-in_err-bench g c = let p = err_from_is_err_and c.from_residual-in_err-bench.result c.from_residual-in_err-bench.ensures.1 in rw p.1 tt

-- the text at the front of a buffer of so many bytes, read back
read_back : (n len : ℕ) (text rest buffer behind : List ℕ) → n ≡ length text → buffer ≡ text ++ rest → length buffer ≡ len → take n (take len (buffer ++ behind)) ≡ text
read_back n len text rest buffer behind e is long =
    ap (take n) (take_at buffer behind len long) ∙ ap (take n) is ∙ take_at text rest n (sym e)

-- The kind is the same all along.

module _ (g : given.Over) (c : After-work_off g) where
  abbrev kind : g.row.K.Denot → Kind
  kind κ = g.K.ValueKind.kind κ

  opens : c.in_ok-bench.bench.kind.now ≡ c.args.kind.now
  opens = c.in_ok-bench.ensures.kind

  works : WorksAll (kind c.args.kind.now) g.S.Scheduler.choice g.S.Scheduler.next c.in_ok-bench.going c.args.scheduler.now c.in_ok-bench.bench c.work_off.result c.work_off.new.scheduler c.work_off.new.self
  works = subst (λ κ. WorksAll (kind κ) g.S.Scheduler.choice g.S.Scheduler.next c.in_ok-bench.going c.args.scheduler.now c.in_ok-bench.bench c.work_off.result c.work_off.new.scheduler c.work_off.new.self) opens c.work_off.ensures

pub unwrap-going-requires : goal.unwrap-going-requires
unwrap-going-requires g c =
    let o = c.in_ok-bench.ensures in
    work_off_ok (card_of c.args.card.now) 0 o.bench o.state (works g (goal.at.unwrap-going-requires g c).After-work_off)

module _ (g : given.Over) (c : After-close g) where
  abbrev worked : WorksAll (g.K.ValueKind.kind c.args.kind.now) g.S.Scheduler.choice g.S.Scheduler.next c.in_ok-bench.going c.args.scheduler.now c.in_ok-bench.bench c.work_off.result c.work_off.new.scheduler c.work_off.new.self
  worked = works g (goal.at.unwrap-closed-requires g c).After-work_off

  closes : Closes (g.K.ValueKind.kind c.args.kind.now) c.unwrap-going.result c.work_off.new.self c.close.result c.close.new.self
  closes =
      subst (λ κ. Closes (g.K.ValueKind.kind κ) c.unwrap-going.result c.work_off.new.self c.close.result c.close.new.self)
      (ap (λ r. r.now) worked.kind ∙ opens g (goal.at.unwrap-closed-requires g c).After-work_off) c.close.ensures

pub unwrap-closed-requires : goal.unwrap-closed-requires
unwrap-closed-requires g c =
    let w = worked g c in
    close_ok (IfOk-at_ok _ c.unwrap-going.ensures w.fits) (IfOk-at_ok _ c.unwrap-going.ensures w.rests) (closes g c)

pub unwrap-length-requires : goal.unwrap-length-requires
unwrap-length-requires g c =
    let d = closes g (goal.at.unwrap-length-requires g c).After-close in
    c.sheet.ensures.short (IfOk-at_ok _ c.unwrap-closed.ensures d.fits)
    (omega (arith, ap length c.deref_mut.ensures.value, ap length (c.in_ok-sheet.ensures.items_if_clones_equal (λ y e. e)), length-replicate {A = ℕ} 512 0))

pub returns : goal.returns
returns g c =
    let f = (goal.at.returns g c).After-close in
    let w = worked g f in
    let d = closes g f in
    let k = g.K.ValueKind.kind c.args.kind.now in
    let card = card_of c.args.card.now in
    let same : c.close.new.self.kind.now ≡ c.args.kind.now = ap (λ r. r.now) (d.kind ∙ w.kind) ∙ opens g (goal.at.returns g c).After-work_off in
    let led = d.leads_on card 0 (w.leads_on card 0 c.in_ok-bench.ensures.history) in
    let wrote = subst (λ κ. Writes (g.K.ValueKind.kind κ) c.unwrap-closed.result c.deref_mut.result.now c.close.new.self c.sheet.result c.sheet.new.buffer c.sheet.new.self) same c.sheet.ensures in
    let serial = subst (λ (y : Result _ _). SerialSheet k (bench_of c.close.new.self) c.deref_mut.result.now y c.sheet.new.buffer) c.unwrap-length.ensures wrote.serial card 0 led in
    c.truncate.ensures.items
    ∙ read_back c.unwrap-length.result c.in_ok-sheet.sheet.len (sheet_of k card) _ c.sheet.new.buffer _ serial.0 serial.1 (omega (arith, c.sheet.auto.buffer, c.deref_mut.ensures.len, ap length c.deref_mut.ensures.value, c.in_ok-sheet.sheet.ok.0))
