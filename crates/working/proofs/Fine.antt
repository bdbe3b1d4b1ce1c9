-- What a step leaves: tasks that hold no more than the one that made it, and that have less to do.
use Rattle.std.proofs.Common.{◌≡◌, ℕ, zero, suc, ◌+◌, ◌<◌, ◌≤◌, Bool, true, false, cond, ◌⊎◌, List, [], ◌∷◌, length, get_or, replicate, refl, ap, ◌∙◌, inl, inr, ⊎_elim, arith}
use Rattle.std.proofs.lemmas.Bool.{cond_both}
use Rattle.kinds.specs.Kinds.{Kind}
use Rattle.cards.specs.declared.lines.Access.{Access}
use Rattle.cards.specs.declared.lines.Access.TheVariants.{Rd, Wr, Cm}
use Rattle.cards.specs.declared.lines.Level.{Level}
use Rattle.cards.specs.declared.lines.Level.TheVariants.{Absent, Deferred, Immediate}
use Rattle.cards.specs.declared.lines.Declaration.{Declaration}
use Rattle.cards.specs.Code.{Block, end, next, Statement, ◌before◌}
use Rattle.cards.specs.Bounds.{step_bound, statement_steps, task_bound}
use Rattle.working.specs.Tasks.{Declared, nothing, state, with_state, held, is_immediate, level, assign, Task}
use Rattle.working.specs.Requests.{FaultKind, Next, goes, Request, fault, quiet, read, write, join, changed, continued, with_word, with_pointer, word, Section, refused, accepted, amended, endowed, child, maker, after_with, after_task, under, statement_request, block_request, request, stepped, reply}
use Rattle.working.specs.Serial.{segment, made_by}
use Rattle.std.specs.List.{AllByRecursion}

-- the declaration state of a task
abbrev pub at : Task → ℕ → Access → Level
at t o a = level t.declared o a

-- v holds no access that u does not hold
abbrev pub Within : Task → Task → Type 0
Within u v = (o : ℕ) (b : Access) → at u o b ≡ Absent → at v o b ≡ Absent

-- P of whatever the request may leave
abbrev pub Leaves : (Next → Type 0) → Request → Type 0
Leaves P (fault f l) = Unit {0}
Leaves P (quiet n) = P n
Leaves P (read o n) = (w : ℕ) → P (n w)
Leaves P (write o w n) = P n
Leaves P (join o w n) = P n

-- The declarations of a section are among those of the task.

-- es hold no access that ds do not hold
abbrev Fewer : List Declared → List Declared → Type 0
Fewer ds es = (o : ℕ) (b : Access) → level ds o b ≡ Absent → level es o b ≡ Absent

abbrev Accepts : (List Declared → Type 0) → Section → Type 0
Accepts P (refused l) = Unit {0}
Accepts P (accepted ds) = P ds

state_cases : (d : Declared) (a : Access) (s : Level) (b : Access) → (state (with_state d a s) b ≡ state d b) ⊎ (a ≡ b)
state_cases d Rd s Rd = inr refl
state_cases d Rd s Wr = inl refl
state_cases d Rd s Cm = inl refl
state_cases d Wr s Rd = inl refl
state_cases d Wr s Wr = inr refl
state_cases d Wr s Cm = inl refl
state_cases d Cm s Rd = inl refl
state_cases d Cm s Wr = inl refl
state_cases d Cm s Cm = inr refl

assign_level : (ds : List Declared) (o : ℕ) (a : Access) (s : Level) (p : ℕ) (b : Access) → (level (assign ds o a s) p b ≡ level ds p b) ⊎ ((o ≡ p) × (a ≡ b))
assign_level [] o a s p b = inl refl
assign_level (d ∷ ds) zero a s zero b = ⊎_elim (λ e. inl e) (λ e. inr (refl, e)) (state_cases d a s b)
assign_level (d ∷ ds) zero a s (suc p) b = inl refl
assign_level (d ∷ ds) (suc o) a s zero b = inl refl
assign_level (d ∷ ds) (suc o) a s (suc p) b = ⊎_elim (λ e. inl e) (λ e. inr (ap suc e.0, e.1)) (assign_level ds o a s p b)

pub not_held : (l : Level) → held l ≡ true → l ≡ Absent → ⊥
not_held Absent e h = cc
not_held Deferred e h = cc
not_held Immediate e h = cc

fewer_assign : (ds es : List Declared) (o : ℕ) (a : Access) (s : Level) → Fewer ds es → (level ds o a ≡ Absent → ⊥) → Fewer ds (assign es o a s)
fewer_assign ds es o a s f h p b e = ⊎_elim (λ q. q ∙ f p b e) (λ q. absurd (h (rw (q.0, q.1) e))) (assign_level es o a s p b)

amended_fewer : (ps : List ℕ) (ds es : List Declared) (xs : List Declaration) → Fewer ds es → Accepts (Fewer ds) (amended ps es xs)
amended_fewer ps ds es [] f = f
amended_fewer ps ds es (x ∷ xs) f =
    let o = get_or ps x.pointer 0 in
    cond_both (held (level es o x.access)) (amended ps (assign es o x.access x.level) xs) (refused x.line) (Accepts (Fewer ds))
    (λ e. amended_fewer ps ds (assign es o x.access x.level) xs (fewer_assign ds es o x.access x.level f (λ g. not_held _ e (f o x.access g))))
    (λ e. tt)

endowed_fewer : (ps : List ℕ) (ds es : List Declared) (xs : List Declaration) → Fewer ds es → Accepts (Fewer ds) (endowed ps ds es xs)
unfolding endowed
endowed_fewer ps ds es [] f = f
endowed_fewer ps ds es (x ∷ xs) f =
    let o = get_or ps x.pointer 0 in
    cond_both (held (level ds o x.access)) (endowed ps ds (assign es o x.access x.level) xs) (refused x.line) (Accepts (Fewer ds))
    (λ e. endowed_fewer ps ds (assign es o x.access x.level) xs (fewer_assign ds es o x.access x.level f (not_held _ e)))
    (λ e. tt)

pub state_nothing : (a : Access) → state nothing a ≡ Absent
state_nothing Rd = refl
state_nothing Wr = refl
state_nothing Cm = refl

level_nothing : (n o : ℕ) (b : Access) → level (replicate n nothing) o b ≡ Absent
level_nothing zero o b = state_nothing b
level_nothing (suc n) zero b = state_nothing b
level_nothing (suc n) (suc o) b = level_nothing n o b

-- What a request leaves.

unfoldable pub total_steps : List Task → ℕ
total_steps [] = 0
total_steps (t ∷ ts) = step_bound t.work + 1 + total_steps ts

unfoldable pub total_tasks : List Task → ℕ
total_tasks [] = 0
total_tasks (t ∷ ts) = task_bound t.work + total_tasks ts

-- n leaves tasks that hold no more than t, have less than s to do, and make at most c tasks, with the one just made
pub record Fine (t : Task) (s c : ℕ) (n : Next) : Type 0 where
  pub within : AllByRecursion (Within t) (segment n)
  pub spends : total_steps (segment n) < s
  pub counts : made_by n + total_tasks (segment n) ≤ c

fine_goes : (t u : Task) (s c : ℕ) → Within t u → step_bound u.work + 1 < s → task_bound u.work ≤ c → Fine t s c (goes u)
unfolding segment made_by total_steps total_tasks
fine_goes t u s c w a b = record { within = (w, tt); spends = omega arith; counts = omega arith }

pub step_bound_before : (x b : Block) → step_bound (x before b) ≡ step_bound x + step_bound b
unfolding ◌before◌ step_bound
step_bound_before end b = omega arith
step_bound_before (next l s x) b = let h = step_bound_before x b in omega arith

pub task_bound_before : (x b : Block) → task_bound (x before b) ≡ task_bound x + task_bound b
unfolding ◌before◌ task_bound
task_bound_before end b = omega arith
task_bound_before (next l s x) b = let h = task_bound_before x b in omega arith

leaves_under : (P : Next → Type 0) (t : Task) (a : Access) (o : ℕ) (r : Request) (f : FaultKind) (l : ℕ) → Leaves P r → Leaves P (under t a o r (fault f l))
unfolding under
leaves_under P t a o r f l h = cond_both (is_immediate (at t o a)) r (fault f l) (Leaves P) (λ e. h) (λ e. tt)

abbrev Spends : Task → Block → Next → Type 0
Spends t b = Fine t (step_bound b + 1) (task_bound b)

goes_on : (t : Task) (w p : List ℕ) (d : List Declared) (l : ℕ) (s : Statement) (b : Block) → Fewer t.declared d → 1 ≤ statement_steps s → Spends t (next l s b) (goes (changed t w p d b))
unfolding changed step_bound task_bound
goes_on t w p d l s b f h = fine_goes t _ _ _ f (omega arith) (omega arith)

fine_with : (t : Task) (l : ℕ) (ds : List Declaration) (b : Block) (s : Section) → Accepts (Fewer t.declared) s → Leaves (Spends t (next l (Statement.with ds) b)) (after_with t b s)
unfolding after_with statement_steps
fine_with t l ds b (refused n) f = tt
fine_with t l ds b (accepted es) f = goes_on t _ _ es l (Statement.with ds) b f (omega arith)

fine_task : (t : Task) (l : ℕ) (ds : List Declaration) (x b : Block) (s : Section) → Accepts (Fewer t.declared) s → Leaves (Spends t (next l (Statement.task ds x) b)) (after_task t x b s)
unfolding after_task step_bound task_bound segment made_by total_steps total_tasks child maker
fine_task t l ds x b (refused n) f = tt
fine_task t l ds x b (accepted es) f = record { within = (f, ((λ o a e. e), tt)); spends = omega arith; counts = omega arith }

goes_arm : (k : Kind) (t : Task) (l i j : ℕ) (x y b : Block) (z : Bool) → Spends t (next l (Statement.if_else i j x y) b) (goes (continued t (cond z x y before b)))
unfolding continued changed step_bound task_bound
goes_arm k t l i j x y b true = fine_goes t _ _ _ (λ o a e. e) (omega (arith, step_bound_before x b)) (omega (arith, task_bound_before x b))
goes_arm k t l i j x y b false = fine_goes t _ _ _ (λ o a e. e) (omega (arith, step_bound_before y b)) (omega (arith, task_bound_before y b))

goes_in : (k : Kind) (t : Task) (l i j : ℕ) (x b : Block) (z : Bool) → Spends t (next l (Statement.if i j x) b) (goes (continued t (cond z x end before b)))
unfolding continued changed step_bound task_bound ◌before◌
goes_in k t l i j x b true = fine_goes t _ _ _ (λ o a e. e) (omega (arith, step_bound_before x b)) (omega (arith, task_bound_before x b))
goes_in k t l i j x b false = fine_goes t _ _ _ (λ o a e. e) (omega arith) (omega arith)

goes_round : (t : Task) (l c : ℕ) (x b : Block) → Spends t (next l (Statement.repeat (suc c) x) b) (goes (continued t (x before (next l (Statement.repeat c x) b))))
unfolding continued changed step_bound task_bound
goes_round t l c x b =
    let rest = next l (Statement.repeat c x) b in
    fine_goes t _ _ _ (λ o a e. e) (omega (arith, step_bound_before x rest)) (omega (arith, task_bound_before x rest))

fine_statement : (k : Kind) (t : Task) (l : ℕ) (s : Statement) (b : Block) → Leaves (Spends t (next l s b)) (statement_request k t l s b)
unfolding statement_request statement_steps with_word with_pointer continued
fine_statement k t l (Statement.set i z) b = goes_on t _ _ _ l (Statement.set i z) b (λ o a e. e) (omega arith)
fine_statement k t l (Statement.add i j) b = goes_on t _ _ _ l (Statement.add i j) b (λ o a e. e) (omega arith)
fine_statement k t l (Statement.point p o) b = goes_on t _ _ _ l (Statement.point p o) b (λ o a e. e) (omega arith)
fine_statement k t l (Statement.alias p q) b = goes_on t _ _ _ l (Statement.alias p q) b (λ o a e. e) (omega arith)
fine_statement k t l (Statement.read i p) b = leaves_under _ t Rd _ _ _ _ (λ w. goes_on t _ _ _ l (Statement.read i p) b (λ o a e. e) (omega arith))
fine_statement k t l (Statement.write p i) b = leaves_under _ t Wr _ _ _ _ (goes_on t _ _ _ l (Statement.write p i) b (λ o a e. e) (omega arith))
fine_statement k t l (Statement.join p i) b = leaves_under _ t Cm _ _ _ _ (goes_on t _ _ _ l (Statement.join p i) b (λ o a e. e) (omega arith))
fine_statement k t l (Statement.if i j x) b = goes_in k t l i j x b (k.less (word t i) (word t j))
fine_statement k t l (Statement.if_else i j x y) b = goes_arm k t l i j x y b (k.less (word t i) (word t j))
fine_statement k t l (Statement.repeat zero x) b = goes_on t _ _ _ l (Statement.repeat zero x) b (λ o a e. e) (omega arith)
fine_statement k t l (Statement.repeat (suc c) x) b = goes_round t l c x b
fine_statement k t l (Statement.task ds x) b = fine_task t l ds x b _ (endowed_fewer t.pointers t.declared (replicate (length t.declared) nothing) ds (λ o a e. level_nothing (length t.declared) o a))
fine_statement k t l (Statement.with ds) b = fine_with t l ds b _ (amended_fewer t.pointers t.declared t.declared ds (λ o a e. e))

fine_block : (k : Kind) (t : Task) (b : Block) → Leaves (Spends t b) (block_request k t b)
unfolding block_request step_bound task_bound segment made_by total_steps total_tasks
fine_block k t end = record { within = tt; spends = omega arith; counts = omega arith }
fine_block k t (next l s b) = fine_statement k t l s b

pub fine : (k : Kind) (t : Task) → Leaves (Fine t (step_bound t.work + 1) (task_bound t.work)) (request k t)
unfolding request
fine k t = fine_block k t t.work

-- whatever the words
pub leaves_reply : (P : Next → Type 0) (r : Request) (m : List ℕ) (n : Next) → Leaves P r → reply m r ≡ stepped n → P n
unfolding reply
leaves_reply P (fault f l) m n h e = cc
leaves_reply P (quiet x) m n h e = let q : x ≡ n = cc in rw (← q) h
leaves_reply P (read o x) m n h e = let q : x (get_or m o 0) ≡ n = cc in rw (← q) (h (get_or m o 0))
leaves_reply P (write o w x) m n h e = let q : x ≡ n = cc in rw (← q) h
leaves_reply P (join o w x) m n h e = let q : x ≡ n = cc in rw (← q) h

-- what a step of t leaves
pub fine_reply : (k : Kind) (m : List ℕ) (t : Task) (x : Next) → reply m (request k t) ≡ stepped x → Fine t (step_bound t.work + 1) (task_bound t.work) x
fine_reply k m t x e = leaves_reply _ (request k t) m x (fine k t) e
