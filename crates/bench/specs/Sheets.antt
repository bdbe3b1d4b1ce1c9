-- What the sheet call answers and writes.
use Rattle.std.specs.Prelude.{◌≡◌, ℕ, ◌≤◌, true, List, ◌++◌, length, drop, is_ok, Ok, Err, vec_items, Result}
use Rattle.kinds.specs.Kinds.{Kind}
use Rattle.cards.specs.Code.{Card}
use Rattle.sheets.specs.Sheets.{sheet_of}
use Rattle.runs.specs.Benches as Model
use Rattle.runs.specs.BenchSheets.{bench_sheet}
use Rattle.runs.specs.Calls.{Answer}
use Rattle.runs.specs.Tests.{fits_closed}
use Rattle.runs.specs.Answers.{sheet_call}
use Rattle.bench.specs.declared.bench.Bench.{Bench}
use Rattle.bench.specs.declared.tokens.Closed.{Closed}
use Rattle.bench.specs.declared.answers.Refused.{Refused}
use Rattle.bench.specs.Views.{bench_of, closed_of, answer_of}
use Rattle.bench.specs.Histories.{History}
use Rattle.bench.specs.Turns.{HandedBack}

-- the page of b' holds the sheet of b, and nothing else of the bench changes
pub record Fills {K : Type 0} (k : Kind) (b b' : Bench K) : Type 0 where
  pub sheet : vec_items b'.page ≡ bench_sheet k (bench_of b)
  pub short : length (bench_sheet k (bench_of b)) ≤ 512
  pub bench : bench_of b' ≡ bench_of b
  pub kind : b'.kind ≡ b.kind

-- whatever calls led to b, a granted call writes the sheet of serial working and leaves the later bytes
abbrev pub SerialSheet : Kind → Model.Bench → List ℕ → Result ℕ (Refused Closed) → List ℕ → Type 0
SerialSheet k b buffer (Ok n) after = (c : Card) (r : ℕ) → History k c r b → (n ≡ length (sheet_of k c)) × (after ≡ sheet_of k c ++ drop (length (sheet_of k c)) buffer)
SerialSheet k b buffer (Err e) after = Unit {0}

pub record Writes {K : Type 0} (k : Kind) (z : Closed) (buffer : List ℕ) (b : Bench K) (r : Result ℕ (Refused Closed)) (after : List ℕ) (b' : Bench K) : Type 0 where
  pub answers : sheet_call k (closed_of z) buffer (bench_of b) ≡ (answer_of Answer.written r, after)
  pub back : HandedBack z r
  -- 512 bytes are always enough
  pub short : fits_closed (closed_of z) (bench_of b) ≡ true → 512 ≤ length buffer → is_ok r ≡ true
  pub serial : SerialSheet k (bench_of b) buffer r after
  pub bench : bench_of b' ≡ bench_of b
  pub kind : b'.kind ≡ b.kind
