-- The line as it is stored: task numbers in line order, a state for each number, and a queue for each object.
use Rattle.std.specs.Prelude.{ℕ, cond, List, [], ◌∷◌, map, vec_items, ◌==◌, slice_index_or, slice_set}
use Rattle.cards.specs.Code.{end}
use Rattle.working.specs.declared.declared.Declared.{Declared}
use Rattle.working.specs.Tasks.{nothing, Task}
use Rattle.runs.specs.declared.entry.Entry.{Entry}
use Rattle.runs.specs.Lines.{Member, member}
use Rattle.lines.specs.declared.queue.Queue.{Queue}
use Rattle.lines.specs.declared.state.State.{State}
use Rattle.lines.specs.declared.state.State.TheVariants.{Finished}
use Rattle.lines.specs.States.{is_finished, status_of}

abbrev pub queues_of : List Queue → List (List Entry)
queues_of qs = map (λ (q : Queue). vec_items q.entries) qs

-- what task n declares by a queue, and by all of them
unfoldable pub declared_in : List Entry → ℕ → Declared
declared_in [] n = nothing
declared_in (e ∷ es) n = cond (e.number == n) e.declared (declared_in es n)

unfoldable pub declared_by : List (List Entry) → ℕ → List Declared
declared_by qs n = map (λ es. declared_in es n) qs

-- past the last number no task was made
abbrev pub state_at : List State → ℕ → State
state_at ss n = slice_index_or ss n Finished

-- task n in another state, unless it is finished
abbrev pub marked : List State → ℕ → State → List State
marked ss n s = cond (is_finished (state_at ss n)) ss (slice_set ss n s)

-- the line, where t n is the task that is numbered n
unfoldable pub member_at : List State → (ℕ → Task) → ℕ → Member
member_at ss t n = member n (status_of (state_at ss n)) (t n)

unfoldable pub members_at : List State → (ℕ → Task) → List ℕ → List Member
members_at ss t ns = map (member_at ss t) ns

-- a task of which only the declarations count
unfoldable pub declaring : List Declared → Task
declaring ds = record { place = []; words = []; pointers = []; declared = ds; work = end; children = 0 }

-- the line by what is stored alone
unfoldable pub stored_line : List (List Entry) → List State → List ℕ → List Member
stored_line qs ss ns = members_at ss (λ n. declaring (declared_by qs n)) ns
