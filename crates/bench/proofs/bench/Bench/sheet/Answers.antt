use Rattle.std.proofs.Common.{◌≡◌, ℕ, eqb, leb, List, ◌++◌, length, drop, sym, refl, ap, ◌∙◌, ap₂, None}
use Rattle.std.proofs.lemmas.Bool.{and_parts}
use Rattle.runs.specs.declared.refusal.Refusal.TheVariants.{BufferTooShort}
use Rattle.runs.specs.Benches.{bench}
use Rattle.runs.specs.BenchSheets.{bench_sheet}
use Rattle.runs.specs.Calls.{sheet, Answer}
use Rattle.runs.specs.Tests.{fits_closed, fits, too_long, own_refusal}
use Rattle.runs.specs.Answers.{write_out}
use Rattle.bench.specs.Views.{bench_of, closed_of}
use Rattle.bench.proofs.Histories.{history_kept}
use Rattle.bench.proofs.Calls.{own_refusal_is, unless_true, sheet_granted}
use Rattle.bench.proofs.bench.Bench.sheet.Given as given
use Rattle.bench.proofs.bench.Bench.sheet.Goals.{After-len-length, After-copy_from_slice}
use Rattle.bench.proofs.bench.Bench.sheet.Goals as goal

module _ (g : given.Over) (c : After-len-length g) where
  long : c.len-length.result ≡ length (bench_sheet (g.K.ValueKind.kind c.args.self.now.kind.now) (bench_of c.args.self.now))
  long = c.len-length.ensures ∙ c.fill_page.new.self.page.ok.0 ∙ ap length c.fill_page.ensures.sheet

pub returns : goal.returns
unfolding bench fits fits_closed own_refusal too_long write_out
returns g c =
    let b = bench_of c.args.self.now in
    let z = closed_of c.args.closed in
    let k = g.K.ValueKind.kind c.args.self.now.kind.now in
    let law = g.met.K.ValueKind.lawful c.args.self.now.kind.now in
    let buffer = c.args.buffer.now in
    let n = c.len-length.result in
    let l = long g (goal.at.returns g c).After-len-length in
    let room = ap (λ n. leb n (length buffer)) (sym l) ∙ sym c.in_ok-unless.ensures.granted in
    let fit = sym c.has_closed.ensures ∙ sym c.in_ok-closed.ensures.granted in
    let text : c.copy_from_slice.new.self ≡ bench_sheet k b = c.copy_from_slice.ensures.after ∙ c.deref.ensures.value ∙ c.fill_page.ensures.sheet in
    let shut = (and_parts (eqb c.args.closed.run c.args.self.now.run) c.args.self.now.closed fit).1 in
    record {
      answers =
          sheet_granted k z buffer b (own_refusal_is k (sheet z buffer) b None fit (unless_true _ BufferTooShort room))
          ∙ ap₂ {C = Answer × List ℕ} (λ (i : ℕ) (xs : List ℕ). (Answer.written i, xs ++ drop i buffer)) (sym l) (sym text);
      back = tt;
      short = λ _ _. refl;
      serial = λ card r h.
          let kept = history_kept k card r b law h in
          let same = (kept.agrees (kept.closed_rests shut).settled_yet).same_sheet in
          (l ∙ ap length same, ap₂ (λ (i : ℕ) (xs : List ℕ). xs ++ drop i buffer) (l ∙ ap length same) (text ∙ same));
      bench = c.fill_page.ensures.bench;
      kind = c.fill_page.ensures.kind;
    }
