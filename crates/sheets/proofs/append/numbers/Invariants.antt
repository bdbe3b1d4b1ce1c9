use Rattle.std.proofs.Common.{drop}
use Rattle.sheets.specs.Sheets.{numbers}
use Rattle.sheets.proofs.Turns.{Left}
use Rattle.sheets.proofs.append.numbers.Given as goal

abbrev pub invariant-loop-word : goal.invariant-loop-word
invariant-loop-word g l = Left l.initial.out l.out (numbers (g.K.ValueKind.kind l.kind) l.words) (numbers (g.K.ValueKind.kind l.kind) (drop l.word-index l.words))
