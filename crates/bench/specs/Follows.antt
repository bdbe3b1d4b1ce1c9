-- What a step of a task asks of the line, and what the line is told.
use Rattle.std.specs.Prelude.{◌≡◌, ℕ, ◌+◌, ◌<◌, false, List, [], ◌∷◌, length, Ok, Err, Result}
use Rattle.std.specs.List.{slice_get}
use Rattle.working.specs.declared.declared.Declared.{Declared}
use Rattle.working.specs.declared.fault.Fault.{Fault}
use Rattle.working.specs.Tasks.{Task}
use Rattle.runs.specs.Lines.{waiting, stuck, Member, member, replace}
use Rattle.tasks.specs.declared.step.Progress.{Progress}
use Rattle.tasks.specs.declared.step.Progress.TheVariants.{Went, Amended, Finished, Made}
use Rattle.tasks.specs.Views.{declared_by}
use Rattle.lines.specs.declared.line.Line.{Line}
use Rattle.lines.specs.States.{is_finished}
use Rattle.lines.specs.Changes.{Narrower}
use Rattle.lines.specs.Lines.{object_count, state_of, declarations, line_of, Tells, But, ButBoth}

-- what task n declares on each object
abbrev pub declared_at : List Task → ℕ → List Declared
declared_at ts n = declared_by (slice_get ts n)

-- declarations of a step of task n: on every object, and none that the task did not hold
pub record Narrowed (l : Line) (n : ℕ) (ds : List Declared) : Type 0 where
  pub sized : length ds ≡ object_count l
  pub narrower : Narrower (declarations l n) ds

-- a child is to have the next number, and there is room for it
pub record RoomFor (l : Line) (n : ℕ) (child : ℕ) (ds : List Declared) : Type 0 where
  pub next : child ≡ l.made
  pub room : l.made < 64
  pub live : is_finished (state_of l n) ≡ false
  pub narrowed : Narrowed l n ds

abbrev pub FitsLine : Line → List Task → ℕ → Result Progress Fault → Type 0
FitsLine l ts n (Err f) = Unit {0}
FitsLine l ts n (Ok Went) = Unit {0}
FitsLine l ts n (Ok Amended) = Narrowed l n (declared_at ts n)
FitsLine l ts n (Ok Finished) = Unit {0}
FitsLine l ts n (Ok (Made child)) = RoomFor l n child (declared_at ts child)

-- the tasks before the step and after it differ at n alone, or at n and the child alone
abbrev pub Differs : Result Progress Fault → ℕ → (ℕ → Task) → (ℕ → Task) → Type 0
Differs (Err f) n t u = But n t u
Differs (Ok Went) n t u = But n t u
Differs (Ok Amended) n t u = But n t u
Differs (Ok Finished) n t u = But n t u
Differs (Ok (Made child)) n t u = ButBoth n child t u

-- the declarations of those
abbrev pub Declares : Result Progress Fault → List Task → ℕ → (ℕ → Task) → (ℕ → Task) → Type 0
Declares (Err f) ts n t u = (u n).declared ≡ (t n).declared
Declares (Ok Went) ts n t u = (u n).declared ≡ (t n).declared
Declares (Ok Amended) ts n t u = (u n).declared ≡ declared_at ts n
Declares (Ok Finished) ts n t u = Unit {0}
Declares (Ok (Made child)) ts n t u = ((u n).declared ≡ (t n).declared) × ((u child).declared ≡ declared_at ts child)

-- what stands in the place of task n
abbrev pub standing : Result Progress Fault → ℕ → (ℕ → Task) → List Member
standing (Err f) n u = member n (stuck f.kind f.line) (u n) ∷ []
standing (Ok Went) n u = member n waiting (u n) ∷ []
standing (Ok Amended) n u = member n waiting (u n) ∷ []
standing (Ok Finished) n u = []
standing (Ok (Made child)) n u = member child waiting (u child) ∷ member n waiting (u n) ∷ []

-- how many tasks were made
abbrev pub added : Result Progress Fault → ℕ
added (Err f) = 0
added (Ok Went) = 0
added (Ok Amended) = 0
added (Ok Finished) = 0
added (Ok (Made child)) = 1

-- the line after a step of task n, from l to l', where ts are the tasks that the step left
pub record Followed (ts : List Task) (n : ℕ) (a : Result Progress Fault) (l l' : Line) : Type 0 where
  pub line : (t u : ℕ → Task) → Differs a n t u → line_of l' u ≡ replace n (standing a n u) (line_of l t)
  pub tells : (t u : ℕ → Task) → Differs a n t u → Declares a ts n t u → Tells l t → Tells l' u
  pub objects : object_count l' ≡ object_count l
  pub made : l'.made ≡ l.made + added a
