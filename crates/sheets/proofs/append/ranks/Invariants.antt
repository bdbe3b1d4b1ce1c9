use Rattle.std.proofs.Common.{drop}
use Rattle.sheets.specs.Sheets.{ranks_text}
use Rattle.sheets.proofs.Turns.{Left}
use Rattle.sheets.proofs.append.ranks.Given as goal

abbrev pub invariant-loop-rank : goal.invariant-loop-rank
invariant-loop-rank l = Left l.initial.out l.out (ranks_text l.place) (ranks_text (drop l.rank-index l.place))
