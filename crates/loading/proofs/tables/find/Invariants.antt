use Rattle.std.proofs.Common.{◌≡◌, drop}
use Rattle.loading.specs.Lines.{find, entries}
use Rattle.loading.proofs.tables.find.Given as goal

abbrev pub invariant-loop-name : goal.invariant-loop-name
invariant-loop-name g l = find (entries (drop l.name-index l.table)) l.word ≡ find (entries l.table) l.word
