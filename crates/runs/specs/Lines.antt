-- The line of unfinished tasks.
use Rattle.std.specs.Prelude.{ℕ, Bool, true, false, cond, ◌||◌, List, [], ◌∷◌, ◌++◌, Some, None, Option, ◌==◌}
use Rattle.working.specs.declared.fault.FaultKind.{FaultKind}
use Rattle.working.specs.Tasks.{Task}

-- waiting, with its turn out, or stuck at a fault of a kind and a line
pub data Status : Type 0 where
  waiting out : Status
  stuck : FaultKind → ℕ → Status

unfoldable pub is_out : Status → Bool
is_out waiting = false
is_out out = true
is_out (stuck f l) = false

unfoldable pub is_stuck : Status → Bool
is_stuck waiting = false
is_stuck out = false
is_stuck (stuck f l) = true

-- an unfinished task; tasks are numbered by making, from 0
pub record Member : Type 0 where
  pub number : ℕ
  pub status : Status
  pub task : Task

unfoldable pub member : ℕ → Status → Task → Member
member n s t = record { number = n; status = s; task = t }

unfoldable pub with_status : Member → Status → Member
with_status s u = member s.number u s.task

-- the member that is numbered n, and the line with others in its place
unfoldable pub find : ℕ → List Member → Option Member
find n [] = None
find n (s ∷ ss) = cond (s.number == n) (Some s) (find n ss)

unfoldable pub replace : ℕ → List Member → List Member → List Member
replace n new [] = []
replace n new (s ∷ ss) = cond (s.number == n) (new ++ ss) (s ∷ replace n new ss)

unfoldable pub any_out : List Member → Bool
any_out [] = false
any_out (s ∷ ss) = is_out s.status || any_out ss
