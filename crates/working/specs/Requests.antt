-- What a task asks at its next step. Its record alone decides that; the objects' words only answer a read.
use Rattle.std.specs.Prelude.{ℕ, zero, suc, cond, List, [], ◌∷◌, ◌++◌, length, replicate, slice_index, slice_set}
use Rattle.kinds.specs.Kinds.{Kind}
use Rattle.cards.specs.declared.lines.Access.{Access}
use Rattle.cards.specs.declared.lines.Access.TheVariants.{Rd, Wr, Cm}
use Rattle.cards.specs.declared.lines.Declaration.{Declaration}
use Rattle.cards.specs.Code.{Block, end, next, Statement, ◌before◌}
use Rattle.working.specs.Tasks.{Declared, nothing, held, is_immediate, level, assign, Task}
pub use Rattle.working.specs.declared.fault.FaultKind.{FaultKind}
pub use Rattle.working.specs.declared.fault.FaultKind.TheVariants.{Read as reading, Write as writing, Join as joining, Declare as declaring}

-- what a step leaves of the task: nothing, the task changed, or a child and its maker
pub data Next : Type 0 where
  leaves : Next
  goes : Task → Next
  makes : Task → Task → Next

-- a fault at a line; or a step that touches no object, reads one, writes a word to one, or joins a word to one
pub data Request : Type 0 where
  fault : FaultKind → ℕ → Request
  quiet : Next → Request
  read : ℕ → (ℕ → Next) → Request
  write : ℕ → ℕ → Next → Request
  join : ℕ → ℕ → Next → Request

-- t with words w, pointers p and declarations d, and b to do
unfoldable pub changed : Task → List ℕ → List ℕ → List Declared → Block → Task
changed t w p d b = record { place = t.place; words = w; pointers = p; declared = d; work = b; children = t.children }

unfoldable pub continued : Task → Block → Task
continued t b = changed t t.words t.pointers t.declared b

unfoldable pub with_word : Task → ℕ → ℕ → Block → Task
with_word t i w b = changed t (slice_set t.words i w) t.pointers t.declared b

unfoldable pub with_pointer : Task → ℕ → ℕ → Block → Task
with_pointer t i o b = changed t t.words (slice_set t.pointers i o) t.declared b

unfoldable pub word : Task → ℕ → ℕ
word t i = slice_index t.words i

unfoldable pub pointer : Task → ℕ → ℕ
pointer t i = slice_index t.pointers i

-- what a section of declarations comes to: refused at a line, or new declarations
pub data Section : Type 0 where
  refused : ℕ → Section
  accepted : List Declared → Section

-- `with`, by a task's pointers: each line needs the access in the declarations as changed so far
abbrev pub amended : List ℕ → List Declared → List Declaration → Section
amended ps ds [] = accepted ds
amended ps ds (x ∷ xs) =
    cond (held (level ds (slice_index ps x.pointer) x.access))
    (amended ps (assign ds (slice_index ps x.pointer) x.access x.level) xs)
    (refused x.line)

-- `task`, by the maker's pointers and declarations: each line needs the access in the maker; ds are the child's so far
unfoldable pub endowed : List ℕ → List Declared → List Declared → List Declaration → Section
endowed ps maker ds [] = accepted ds
endowed ps maker ds (x ∷ xs) =
    cond (held (level maker (slice_index ps x.pointer) x.access))
    (endowed ps maker (assign ds (slice_index ps x.pointer) x.access x.level) xs)
    (refused x.line)

-- a child gets copies of its maker's words and pointers
unfoldable pub child : Task → List Declared → Block → Task
child t ds b = record {
  place = t.place ++ (suc t.children ∷ []);
  words = t.words;
  pointers = t.pointers;
  declared = ds;
  work = b;
  children = 0;
}

unfoldable pub maker : Task → Block → Task
maker t b = record {
  place = t.place;
  words = t.words;
  pointers = t.pointers;
  declared = t.declared;
  work = b;
  children = suc t.children;
}

unfoldable pub after_with : Task → Block → Section → Request
after_with t b (refused l) = fault declaring l
after_with t b (accepted ds) = quiet (goes (changed t t.words t.pointers ds b))

unfoldable pub after_task : Task → Block → Block → Section → Request
after_task t body b (refused l) = fault declaring l
after_task t body b (accepted ds) = quiet (makes (child t ds body) (maker t b))

-- r where the task has the immediate declaration, or else the fault
unfoldable pub under : Task → Access → ℕ → Request → Request → Request
under t a o r f = cond (is_immediate (level t.declared o a)) r f

-- the step of statement s, at line l, with b to do after it
unfoldable pub statement_request : Kind → Task → ℕ → Statement → Block → Request
statement_request k t l (Statement.set i z) b = quiet (goes (with_word t i (k.literal z) b))
statement_request k t l (Statement.add i j) b = quiet (goes (with_word t i (k.add (word t i) (word t j)) b))
statement_request k t l (Statement.point p o) b = quiet (goes (with_pointer t p o b))
statement_request k t l (Statement.alias p q) b = quiet (goes (with_pointer t p (pointer t q) b))
statement_request k t l (Statement.read i p) b = under t Rd (pointer t p) (read (pointer t p) (λ w. goes (with_word t i w b))) (fault reading l)
statement_request k t l (Statement.write p i) b = under t Wr (pointer t p) (write (pointer t p) (word t i) (goes (continued t b))) (fault writing l)
statement_request k t l (Statement.join p i) b = under t Cm (pointer t p) (join (pointer t p) (word t i) (goes (continued t b))) (fault joining l)
statement_request k t l (Statement.if i j x) b = quiet (goes (continued t (cond (k.less (word t i) (word t j)) x end before b)))
statement_request k t l (Statement.if_else i j x y) b = quiet (goes (continued t (cond (k.less (word t i) (word t j)) x y before b)))
statement_request k t l (Statement.repeat zero x) b = quiet (goes (continued t b))
statement_request k t l (Statement.repeat (suc c) x) b = quiet (goes (continued t (x before (next l (Statement.repeat c x) b))))
statement_request k t l (Statement.task ds x) b = after_task t x b (endowed t.pointers t.declared (replicate (length t.declared) nothing) ds)
statement_request k t l (Statement.with ds) b = after_with t b (amended t.pointers t.declared ds)

-- a task with no work left is finished
unfoldable pub block_request : Kind → Task → Block → Request
block_request k t end = quiet leaves
block_request k t (next l s b) = statement_request k t l s b

unfoldable pub request : Kind → Task → Request
request k t = block_request k t t.work

-- the objects' words after a request is met
unfoldable pub stored : Kind → List ℕ → Request → List ℕ
stored k m (fault f l) = m
stored k m (quiet n) = m
stored k m (read o n) = m
stored k m (write o w n) = slice_set m o w
stored k m (join o w n) = slice_set m o (k.join (slice_index m o) w)

-- what comes of it for the task
pub data Reply : Type 0 where
  faulted : FaultKind → ℕ → Reply
  stepped : Next → Reply

unfoldable pub reply : List ℕ → Request → Reply
reply m (fault f l) = faulted f l
reply m (quiet n) = stepped n
reply m (read o n) = stepped (n (slice_index m o))
reply m (write o w n) = stepped n
reply m (join o w n) = stepped n
