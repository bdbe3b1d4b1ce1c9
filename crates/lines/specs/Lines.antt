-- The line in the model's terms, and what it knows of each task.
use Rattle.std.specs.Prelude.{◌≡◌, ℕ, Bool, true, false, List, [], ◌∷◌, Some, vec_items, vec_len, ◌≢◌}
use Rattle.working.specs.declared.declared.Declared.{Declared}
use Rattle.working.specs.Tasks.{Task}
use Rattle.runs.specs.Lines.{Status, Member, member, find, replace}
use Rattle.lines.specs.declared.line.Line.{Line}
use Rattle.lines.specs.declared.state.State.{State}
use Rattle.lines.specs.States.{is_finished}
use Rattle.lines.specs.Same.{same_declarations}
use Rattle.lines.specs.Stored.{queues_of, declared_by, state_at, members_at}

abbrev pub object_count : Line → ℕ
object_count l = vec_len l.queues

abbrev pub state_of : Line → ℕ → State
state_of l n = state_at l.states n

abbrev pub declarations : Line → ℕ → List Declared
declarations l n = declared_by (queues_of (vec_items l.queues)) n

-- the line, where t n is the task that is numbered n
abbrev pub line_of : Line → (ℕ → Task) → List Member
line_of l t = members_at l.states t (vec_items l.order)

-- each task in the line declares what the queues hold of it
abbrev pub Tells : Line → (ℕ → Task) → Type 0
Tells l t = (n : ℕ) → is_finished (state_of l n) ≡ false → same_declarations (t n).declared (declarations l n) ≡ true

-- u and t differ at n alone, or at m and n alone
abbrev pub But : ℕ → (ℕ → Task) → (ℕ → Task) → Type 0
But n t u = (k : ℕ) → (k ≢ n) → u k ≡ t k

abbrev pub ButBoth : ℕ → ℕ → (ℕ → Task) → (ℕ → Task) → Type 0
ButBoth m n t u = (k : ℕ) → (k ≢ m) → (k ≢ n) → u k ≡ t k

-- in the place of task n stand ms, where the tasks before and after differ at n alone
abbrev pub Replaces : ℕ → ((ℕ → Task) → List Member) → Line → Line → Type 0
Replaces n ms l l' = (t u : ℕ → Task) → But n t u → line_of l' u ≡ replace n (ms u) (line_of l t)

-- task n alone, with this status
abbrev pub in_status : ℕ → Status → (ℕ → Task) → List Member
in_status n s u = member n s (u n) ∷ []

-- what l knows of each task l' knows too, if task n declares what it did
abbrev pub TellsAlike : ℕ → Line → Line → Type 0
TellsAlike n l l' = (t u : ℕ → Task) → But n t u → (u n).declared ≡ (t n).declared → Tells l t → Tells l' u

-- if b, task n stands in the line with this status
abbrev pub FoundIf : Bool → ℕ → Status → Line → Type 0
FoundIf b n s l = (t : ℕ → Task) → b ≡ true → find n (line_of l t) ≡ Some (member n s (t n))

-- as many objects, and as many tasks made
abbrev pub SizedAs : Line → Line → Type 0
SizedAs l l' = (object_count l' ≡ object_count l) × (l'.made ≡ l.made)
