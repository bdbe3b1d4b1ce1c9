-- The sheet of a settled bench.
use Rattle.std.specs.Prelude.{ℕ, List, [], Some, None, Option}
use Rattle.kinds.specs.Kinds.{Kind}
use Rattle.working.specs.Serial.{Outcome}
use Rattle.sheets.specs.Sheets.{outcome_sheet}
use Rattle.runs.specs.Benches.{Bench, outcome}

unfoldable pub settled_sheet : Kind → Bench → Option Outcome → List ℕ
settled_sheet k b None = []
settled_sheet k b (Some o) = outcome_sheet k b.made b.steps o

unfoldable pub bench_sheet : Kind → Bench → List ℕ
bench_sheet k b = settled_sheet k b (outcome b)
