-- What becomes of an object's queue.
use Rattle.std.specs.Prelude.{◌≡◌, ℕ, cond, List}
use Rattle.cards.specs.declared.lines.Access.{Access}
use Rattle.cards.specs.declared.lines.Level.TheVariants.{Absent}
use Rattle.working.specs.declared.declared.Declared.{Declared}
use Rattle.working.specs.Tasks.{level}
use Rattle.runs.specs.declared.entry.Entry.{Entry}
use Rattle.runs.specs.Queues.{declares}
use Rattle.lines.specs.Rows.{entry_number, put_before, without, revised}

abbrev pub entry : ℕ → Declared → Entry
entry n d = record { number = n; declared = d }

-- a child n enters before its maker m, where it declares anything
abbrev pub entered : ℕ → ℕ → Declared → List Entry → List Entry
entered m n d es = cond (declares d) (put_before entry_number m (entry n d) es) es

-- task n declares d
abbrev pub redeclared : ℕ → Declared → List Entry → List Entry
redeclared n d es = cond (declares d) (revised entry_number n (entry n d) es) (without entry_number n es)

-- task n leaves
abbrev pub left : ℕ → List Entry → List Entry
left n es = without entry_number n es

-- new hold no access that old do not hold
abbrev pub Narrower : List Declared → List Declared → Type 0
Narrower old new = (o : ℕ) (a : Access) → level old o a ≡ Absent → level new o a ≡ Absent
