-- The queue of an object, read off the line: an entry for each task that declares anything on it, in the line's order.
use Rattle.std.specs.Prelude.{ℕ, Bool, cond, ◌||◌, List, [], ◌∷◌, ◌==◌, slice_index_or}
pub use Rattle.runs.specs.declared.entry.Entry.{Entry}
use Rattle.working.specs.declared.declared.Declared.{Declared}
use Rattle.working.specs.Tasks.{nothing, held}
use Rattle.runs.specs.Lines.{Member}

-- what s declares on object o
unfoldable pub on : Member → ℕ → Declared
on s o = slice_index_or s.task.declared o nothing

unfoldable pub declares : Declared → Bool
declares d = held d.reads || (held d.writes || held d.commutes)

unfoldable pub queue : ℕ → List Member → List Entry
queue o [] = []
queue o (s ∷ ss) = cond (declares (on s o)) (record { number = s.number; declared = on s o } ∷ queue o ss) (queue o ss)

-- the entries before that of task n
unfoldable pub earlier : ℕ → List Entry → List Entry
earlier n [] = []
earlier n (e ∷ es) = cond (e.number == n) [] (e ∷ earlier n es)
