-- What a statement does to a record and the objects' words.
use Rattle.std.specs.Prelude.{◌≡◌, ℕ, suc, ◌≤◌, List, [], ◌∷◌, ◌++◌, Result, Ok, Err, vec_items}
use Rattle.kinds.specs.Kinds.{Kind}
use Rattle.cards.specs.Code.{Block, Statement, ◌before◌}
use Rattle.cards.specs.Bounds.{depth, statement_depth, task_bound, statement_tasks}
use Rattle.cards.specs.Trees.{block_of}
use Rattle.working.specs.Tasks.{Declared}
use Rattle.working.specs.Requests.{Request, declaring, fault, goes, makes, statement_request, stored, stepped, reply}
use Rattle.working.specs.declared.fault.Fault.{Fault}
use Rattle.working.specs.declared.fault.Refused.{Refused}
use Rattle.working.specs.declared.record.Record.{Record}
use Rattle.working.specs.declared.effect.Effect.{Effect}
use Rattle.working.specs.declared.effect.Effect.TheVariants.{Passes, Amends, Enters, Repeats, Makes}
use Rattle.working.specs.Records.{task_with, ChildRecord}

-- statement s meets its request q from record r and words m, of a task at place p with c children and b to do after s;
-- a `task` with whatever its section comes to: the record u of a child, or the refusal e
unfoldable pub Did : Kind → Record → List ℕ → Statement → Result Effect Fault → Record → List ℕ → List ℕ → ℕ → Block → Request → Type 0
Did k r m s (Err f) r' m' p c b q = (q ≡ fault f.kind f.line) × (r' ≡ r) × (m' ≡ m)
Did k r m s (Ok Passes) r' m' p c b q = (reply m q ≡ stepped (goes (task_with r' p c b))) × (m' ≡ stored k m q)
Did k r m s (Ok Amends) r' m' p c b q = (reply m q ≡ stepped (goes (task_with r' p c b))) × (m' ≡ stored k m q)
Did k r m s (Ok (Enters x)) r' m' p c b q = (reply m q ≡ stepped (goes (task_with r' p c (block_of x.now before b)))) × (m' ≡ stored k m q)
Did k r m s (Ok (Repeats n x)) r' m' p c b q = (s ≡ Statement.repeat n (block_of x.now)) × (r' ≡ r) × (m' ≡ m)
Did k r m s (Ok (Makes y x)) r' m' p c b q =
    ((u : Record) → ChildRecord (vec_items y.now.lines) r (Ok u) → (reply m q ≡ stepped (makes (task_with u (p ++ suc c ∷ []) 0 (block_of x.now)) (task_with r' p (suc c) b))) × (m' ≡ stored k m q))
    × ((e : Refused) → ChildRecord (vec_items y.now.lines) r (Err e) → q ≡ fault declaring e.line)
    × (r' ≡ r) × (m' ≡ m)

-- s at line l, whatever the rest of the task
pub record Does (k : Kind) (r : Record) (m : List ℕ) (l : ℕ) (s : Statement) (d : Result Effect Fault) (r' : Record) (m' : List ℕ) : Type 0 where
  pub did : (p : List ℕ) (c : ℕ) (w b : Block) → Did k r m s d r' m' p c b (statement_request k (task_with r p c w) l s b)

-- a block that is entered, or that a child gets, stands in the statement
abbrev pub Inside : Statement → Result Effect Fault → Type 0
Inside s (Err f) = Unit {0}
Inside s (Ok Passes) = Unit {0}
Inside s (Ok Amends) = Unit {0}
Inside s (Ok (Enters x)) = (suc (depth (block_of x.now)) ≤ statement_depth s) × (task_bound (block_of x.now) ≤ statement_tasks s)
Inside s (Ok (Repeats n x)) = Unit {0}
Inside s (Ok (Makes y x)) = (suc (depth (block_of x.now)) ≤ statement_depth s) × (suc (task_bound (block_of x.now)) ≤ statement_tasks s)

-- only a `with` changes the declarations
abbrev pub Kept : List Declared → Result Effect Fault → List Declared → Type 0
Kept ds (Err f) ds' = ds' ≡ ds
Kept ds (Ok Passes) ds' = ds' ≡ ds
Kept ds (Ok Amends) ds' = Unit {0}
Kept ds (Ok (Enters x)) ds' = ds' ≡ ds
Kept ds (Ok (Repeats c x)) ds' = ds' ≡ ds
Kept ds (Ok (Makes y x)) ds' = ds' ≡ ds
