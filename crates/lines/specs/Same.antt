-- Whether two lists of declarations, or of entries, are the same.
use Rattle.std.specs.Prelude.{ℕ, Bool, true, false, ◌&&◌, List, [], ◌∷◌, ◌==◌}
use Rattle.cards.specs.declared.lines.Level.{Level}
use Rattle.cards.specs.declared.lines.Level.TheVariants.{Absent, Deferred, Immediate}
use Rattle.working.specs.declared.declared.Declared.{Declared}
use Rattle.runs.specs.declared.entry.Entry.{Entry}

abbrev pub rank : Level → ℕ
rank Absent = 0
rank Deferred = 1
rank Immediate = 2

unfoldable pub same_declared : Declared → Declared → Bool
same_declared d e = rank d.reads == rank e.reads && (rank d.writes == rank e.writes && rank d.commutes == rank e.commutes)

unfoldable pub same_entries : List Entry → List Entry → Bool
same_entries [] [] = true
same_entries [] (f ∷ fs) = false
same_entries (e ∷ es) [] = false
same_entries (e ∷ es) (f ∷ fs) = (e.number == f.number && same_declared e.declared f.declared) && same_entries es fs

unfoldable pub same_declarations : List Declared → List Declared → Bool
same_declarations [] [] = true
same_declarations [] (e ∷ es) = false
same_declarations (d ∷ ds) [] = false
same_declarations (d ∷ ds) (e ∷ es) = same_declared d e && same_declarations ds es
