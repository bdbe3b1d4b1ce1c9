-- What a record declares, the task that it is with its work, and what sections do to it.
use Rattle.std.specs.Prelude.{◌≡◌, ℕ, ◌<◌, true, false, List, [], length, take, replicate, slice_index, Result, Ok, Err}
use Rattle.kinds.specs.Kinds.{Kind}
use Rattle.cards.specs.Code.{Block, Card}
use Rattle.cards.specs.declared.lines.Access.{Access}
use Rattle.cards.specs.declared.lines.Access.TheVariants.{Rd, Wr, Cm}
use Rattle.cards.specs.declared.lines.Declaration.{Declaration}
use Rattle.working.specs.Tasks.{Declared, Task, nothing, is_immediate, level, main}
use Rattle.working.specs.Requests.{FaultKind, reading, writing, joining, Section, accepted, refused, amended, endowed}
use Rattle.working.specs.declared.fault.Fault.{Fault}
use Rattle.working.specs.declared.fault.Refused.{Refused}
use Rattle.working.specs.declared.record.Record.{Record}

abbrev pub declared_of : Record → List Declared
declared_of r = take r.objects r.declared

abbrev pub task_with : Record → List ℕ → ℕ → Block → Task
task_with r p c b = record { place = p; words = r.words; pointers = r.pointers; declared = declared_of r; work = b; children = c }

-- the fault of an access that is not declared immediate
abbrev pub access_fault : Access → FaultKind
access_fault Rd = reading
access_fault Wr = writing
access_fault Cm = joining

-- the object of pointer p, if the access on it is immediate, or else the fault at line l
abbrev pub Reaches : Record → ℕ → Access → ℕ → Result ℕ Fault → Type 0
Reaches r p a l (Ok o) = (o ≡ slice_index r.pointers p) × (is_immediate (level (declared_of r) o a) ≡ true) × (o < r.objects)
Reaches r p a l (Err f) = (f ≡ record { kind = access_fault a; line = l }) × (is_immediate (level (declared_of r) (slice_index r.pointers p) a) ≡ false)

-- what a section comes to: the line that is refused, or the declarations left
abbrev pub section_of : Result (Unit {0}) Refused → List Declared → Section
section_of (Err e) ds = refused e.line
section_of (Ok _) ds = accepted ds

-- what a `with` leaves of a record
abbrev pub AmendedRecord : List Declaration → Record → Result (Unit {0}) Refused → Record → Type 0
AmendedRecord xs r (Err e) r' = (amended r.pointers (declared_of r) xs ≡ refused e.line) × (r' ≡ r)
AmendedRecord xs r (Ok _) r' =
    (amended r.pointers (declared_of r) xs ≡ accepted (declared_of r'))
    × (r'.words ≡ r.words) × (r'.pointers ≡ r.pointers) × (r'.objects ≡ r.objects)

-- what a `task` with this section makes of its maker's record
abbrev pub child_section : Record → List Declaration → Section
child_section r xs = endowed r.pointers (declared_of r) (replicate (length (declared_of r)) nothing) xs

abbrev pub ChildRecord : List Declaration → Record → Result Record Refused → Type 0
ChildRecord xs r (Err e) = child_section r xs ≡ refused e.line
ChildRecord xs r (Ok u) =
    (child_section r xs ≡ accepted (declared_of u))
    × (u.words ≡ r.words) × (u.pointers ≡ r.pointers) × (u.objects ≡ r.objects)

-- r is main's record
pub record MainRecord (k : Kind) (c : Card) (r : Record) : Type 0 where
  pub task : task_with r [] 0 c.body ≡ main k c
  pub objects : r.objects ≡ length c.words
