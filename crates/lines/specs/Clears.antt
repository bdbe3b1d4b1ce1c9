-- Which entries of a queue are clear, in one pass.
use Rattle.std.specs.Prelude.{ℕ, Bool, true, false, not, ◌&&◌, ◌||◌, List, [], ◌∷◌, length, ◌==◌, slice_index_or}
use Rattle.cards.specs.declared.lines.Access.TheVariants.{Rd, Cm}
use Rattle.working.specs.declared.declared.Declared.{Declared}
use Rattle.working.specs.Tasks.{is_immediate}
use Rattle.runs.specs.declared.entry.Entry.{Entry}
use Rattle.runs.specs.Ready.{passes, each}
use Rattle.lines.specs.declared.clear.Clear.{Clear}

-- before the first entry
abbrev pub at_first : Clear
at_first = record { reads = true; writes = true; commutes = true }

-- past an entry that declares d
abbrev pub past : Clear → Declared → Clear
past c d = record { reads = c.reads && passes Rd d; writes = false; commutes = c.commutes && passes Cm d }

-- the immediate declarations of d are clear
abbrev pub lets : Clear → Declared → Bool
lets c d = (not (is_immediate d.reads) || c.reads) && ((not (is_immediate d.writes) || c.writes) && (not (is_immediate d.commutes) || c.commutes))

-- each entry of task n is clear, in a queue and in all of them
unfoldable pub clear_from : ℕ → Clear → List Entry → Bool
clear_from n c [] = true
clear_from n c (e ∷ es) = (not (e.number == n) || lets c e.declared) && clear_from n (past c e.declared) es

unfoldable pub clear_in : List (List Entry) → ℕ → Bool
clear_in qs n = each (length qs) (λ o. clear_from n at_first (slice_index_or qs o []))
