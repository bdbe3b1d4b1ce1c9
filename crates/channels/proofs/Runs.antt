-- Benches that calls lead on, and the sheet at the end.
use Rattle.std.proofs.Common.{◌≡◌, ℕ, List, Ok, ◌++◌, length, take, drop, sym, refl, ap, ◌∙◌, subst}
use Rattle.std.proofs.lemmas.List.{take_at}
use Rattle.kinds.specs.Kinds.{Kind}
use Rattle.cards.specs.Code.{Card}
use Rattle.sheets.specs.Sheets.{sheet_of}
use Rattle.bench.specs.declared.bench.Bench.{Bench}
use Rattle.bench.specs.Views.{bench_of}
use Rattle.bench.specs.Histories.{History, LeadsOn}
use Rattle.bench.specs.Sheets.{SerialSheet}
use Rattle.channels.specs.Runs.{Goes}

module _ {K : Type 0} {kind : K → Kind} where
  pub goes_nowhere : (b : Bench K) → Goes kind b b
  goes_nowhere b = record { leads_on = λ c r h. h; same_kind = refl }

  pub goes_on : {b b' b'' : Bench K} → Goes kind b b' → Goes kind b' b'' → Goes kind b b''
  goes_on {b = b} {b' = b'} {b'' = b''} f g = record {
    leads_on = λ c r h. subst (λ κ. LeadsOn (kind κ) (bench_of b') (bench_of b'')) (ap (λ κ. κ.now) f.same_kind) g.leads_on c r (f.leads_on c r h);
    same_kind = g.same_kind ∙ f.same_kind;
  }

  -- one call
  pub goes_by : {b b' : Bench K} → LeadsOn (kind b.kind.now) (bench_of b) (bench_of b') → b'.kind ≡ b.kind → Goes kind b b'
  goes_by h e = record { leads_on = h; same_kind = e }

  -- what is written in the end is the sheet of the card that was opened
  pub sheet_came : {b b' : Bench K} (κ : K) → b.kind.now ≡ κ → (c : Card) (r n : ℕ) (buffer after : List ℕ) → Goes kind b b' → History (kind κ) c r (bench_of b) → SerialSheet (kind b'.kind.now) (bench_of b') buffer (Ok n) after
      → (n ≡ length (sheet_of (kind κ) c)) × (after ≡ sheet_of (kind κ) c ++ drop (length (sheet_of (kind κ) c)) buffer)
  sheet_came {b = b} {b' = b'} κ e c r n buffer after f h s =
      subst (λ x. SerialSheet (kind x) (bench_of b') buffer (Ok n) after) (ap (λ x. x.now) f.same_kind ∙ e) s c r
      (subst (λ x. LeadsOn (kind x) (bench_of b) (bench_of b')) e f.leads_on c r h)

-- the text at the front of a buffer of so many bytes, read back
pub read_back : (n len : ℕ) (text rest buffer behind : List ℕ) → n ≡ length text → buffer ≡ text ++ rest → length buffer ≡ len → take n (take len (buffer ++ behind)) ≡ text
read_back n len text rest buffer behind e is long =
    ap (take n) (take_at buffer behind len long) ∙ ap (take n) is ∙ take_at text rest n (sym e)
