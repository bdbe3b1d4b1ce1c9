-- What a request needs, and what does not depend on the words.
use Rattle.std.proofs.Common.{◌≡◌, ℕ, zero, suc, true, List, refl}
use Rattle.std.proofs.lemmas.Bool.{cond_both}
use Rattle.kinds.specs.Kinds.{Kind}
use Rattle.cards.specs.declared.lines.Access.{Access}
use Rattle.cards.specs.declared.lines.Access.TheVariants.{Rd, Wr, Cm}
use Rattle.cards.specs.declared.lines.Level.{Level}
use Rattle.cards.specs.declared.lines.Level.TheVariants.{Absent, Deferred, Immediate}
use Rattle.cards.specs.Code.{Block, end, next, Statement}
use Rattle.working.specs.declared.fault.FaultKind.{FaultKind}
use Rattle.working.specs.Tasks.{is_immediate, Task}
use Rattle.working.specs.Requests.{Request, fault, quiet, read, write, join, Section, refused, accepted, after_with, after_task, under, statement_request, block_request, request, faulted, reply}
use Rattle.working.proofs.Fine.{at}

-- the access that a request uses is immediate
abbrev pub Allowed : Task → Request → Type 0
Allowed t (fault f l) = Unit {0}
Allowed t (quiet n) = Unit {0}
Allowed t (read o n) = at t o Rd ≡ Immediate
Allowed t (write o w n) = at t o Wr ≡ Immediate
Allowed t (join o w n) = at t o Cm ≡ Immediate

-- The access is immediate.

immediate_is : (l : Level) → is_immediate l ≡ true → l ≡ Immediate
immediate_is Absent e = cc
immediate_is Deferred e = cc
immediate_is Immediate e = refl

allowed_under : (t : Task) (a : Access) (o : ℕ) (r : Request) (f : FaultKind) (l : ℕ) → (at t o a ≡ Immediate → Allowed t r) → Allowed t (under t a o r (fault f l))
unfolding under
allowed_under t a o r f l h = cond_both (is_immediate (at t o a)) r (fault f l) (Allowed t) (λ e. h (immediate_is _ e)) (λ e. tt)

allowed_with : (t : Task) (b : Block) (s : Section) → Allowed t (after_with t b s)
unfolding after_with
allowed_with t b (refused l) = tt
allowed_with t b (accepted ds) = tt

allowed_task : (t : Task) (x b : Block) (s : Section) → Allowed t (after_task t x b s)
unfolding after_task
allowed_task t x b (refused l) = tt
allowed_task t x b (accepted ds) = tt

allowed_statement : (k : Kind) (t : Task) (l : ℕ) (s : Statement) (b : Block) → Allowed t (statement_request k t l s b)
unfolding statement_request
allowed_statement k t l (Statement.set i z) b = tt
allowed_statement k t l (Statement.add i j) b = tt
allowed_statement k t l (Statement.point p o) b = tt
allowed_statement k t l (Statement.alias p q) b = tt
allowed_statement k t l (Statement.read i p) b = allowed_under t Rd _ _ _ _ (λ h. h)
allowed_statement k t l (Statement.write p i) b = allowed_under t Wr _ _ _ _ (λ h. h)
allowed_statement k t l (Statement.join p i) b = allowed_under t Cm _ _ _ _ (λ h. h)
allowed_statement k t l (Statement.if i j x) b = tt
allowed_statement k t l (Statement.if_else i j x y) b = tt
allowed_statement k t l (Statement.repeat zero x) b = tt
allowed_statement k t l (Statement.repeat (suc c) x) b = tt
allowed_statement k t l (Statement.task ds x) b = allowed_task t x b _
allowed_statement k t l (Statement.with ds) b = allowed_with t b _

allowed_block : (k : Kind) (t : Task) (b : Block) → Allowed t (block_request k t b)
unfolding block_request
allowed_block k t end = tt
allowed_block k t (next l s b) = allowed_statement k t l s b

pub allowed : (k : Kind) (t : Task) → Allowed t (request k t)
unfolding request
allowed k t = allowed_block k t t.work

-- a fault does not depend on the words
pub fault_reply : (r : Request) (f : FaultKind) (l : ℕ) (m m' : List ℕ) → reply m r ≡ faulted f l → reply m' r ≡ faulted f l
unfolding reply
fault_reply (fault f₁ l₁) f l m m' e = e
fault_reply (quiet n) f l m m' e = cc
fault_reply (read o n) f l m m' e = cc
fault_reply (write o w n) f l m m' e = e
fault_reply (join o w n) f l m m' e = e
