use Rattle.std.proofs.Common.{length, Result, ◌∙◌, ap, subst, arith}
use Rattle.cards.specs.Cards.{card_of}
use Rattle.sheets.specs.Sheets.{sheet_of}
use Rattle.bench.specs.Views.{bench_of}
use Rattle.bench.specs.Sheets.{SerialSheet}
use Rattle.channels.specs.Runs.{Goes}
use Rattle.channels.proofs.Runs.{goes_on, goes_by, sheet_came, read_back}
use Rattle.channels.proofs.worked.work.Goals as goal

pub returns : goal.returns
returns g c =
    let kind = g.K.ValueKind.kind in
    let card = card_of c.args.card.now in
    let b = c.close.new.self in
    let opened = c.in_ok-bench.ensures in
    let run = subst (λ v. Goes kind v c.run.new.self.bench) c.new-desk.ensures c.run.ensures in
    let goes = goes_on (goes_on run c.leave-bench.ensures) (goes_by {b' = b} c.close.ensures.leads_on c.close.ensures.kind) in
    let written = subst (λ (y : Result _ _). SerialSheet (kind b.kind.now) (bench_of b) c.deref_mut.result.now y c.sheet.new.buffer) c.unwrap-length.ensures c.sheet.ensures.serial in
    let serial = sheet_came c.args.kind.now opened.kind card 0 c.unwrap-length.result c.deref_mut.result.now c.sheet.new.buffer goes opened.history written in
    c.truncate.ensures.items
    ∙ read_back c.unwrap-length.result c.in_ok-sheet.sheet.len (sheet_of (kind c.args.kind.now) card) _ c.sheet.new.buffer _ serial.0 serial.1 (omega (arith, c.sheet.auto.buffer, c.deref_mut.ensures.len, ap length c.deref_mut.ensures.value, c.in_ok-sheet.sheet.ok.0))
