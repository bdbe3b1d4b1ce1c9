-- A task is ready exactly if it is not stuck and no task before it bars it.
use Rattle.std.proofs.Common.{◌≡◌, ℕ, zero, suc, ◌<◌, Bool, true, false, cond, not, ◌&&◌, ◌||◌, eqb, List, [], ◌∷◌, ◌++◌, length, sym, refl, ap, ◌∙◌, ⊎_elim, arith}
use Rattle.std.specs.List.{AllByRecursion}
use Rattle.std.proofs.lemmas.List.{get_or_past}
use Rattle.std.proofs.lemmas.Bool.{and_parts, cases_Bool, cases_lt, cases_eq, ne_eqb, eq-eqb}
use Rattle.cards.specs.declared.lines.Access.{Access}
use Rattle.cards.specs.declared.lines.Access.TheVariants.{Rd, Wr, Cm}
use Rattle.cards.specs.declared.lines.Level.{Level}
use Rattle.cards.specs.declared.lines.Level.TheVariants.{Absent, Deferred, Immediate}
use Rattle.working.specs.declared.declared.Declared.{Declared}
use Rattle.working.specs.Tasks.{nothing, state, held, is_immediate, Task}
use Rattle.runs.specs.Lines.{is_stuck, Member}
use Rattle.runs.specs.Queues.{Entry, on, declares, queue, earlier}
use Rattle.runs.specs.Ready.{passes, clear, clear_for, each, ready}
use Rattle.working.proofs.Fine.{at}
use Rattle.runs.proofs.Apart.{Bars, rd_wr, rd_cm, wr_rd, wr_wr, wr_cm, cm_rd, cm_wr, Apart}

not_held : (l : Level) → held l ≡ false → l ≡ Absent
not_held Absent e = refl
not_held Deferred e = cc
not_held Immediate e = cc

-- One entry.

declares_nothing : (d : Declared) → declares d ≡ false → (b : Access) → held (state d b) ≡ false
unfolding declares
declares_nothing d e Rd = grind arith
declares_nothing d e Wr = grind arith
declares_nothing d e Cm = grind arith

passes_bars : (d : Declared) {a b : Access} → passes a d ≡ true → Bars a b → held (state d b) ≡ false
unfolding passes
passes_bars d e rd_wr = grind arith
passes_bars d e rd_cm = grind arith
passes_bars d e wr_rd = cc
passes_bars d e wr_wr = cc
passes_bars d e wr_cm = cc
passes_bars d e cm_rd = grind arith
passes_bars d e cm_wr = grind arith

-- an entry that passes where there is one
abbrev Lets : Access → Declared → Type 0
Lets a d = (b : Access) → Bars a b → state d b ≡ Absent

lets_from : (d : Declared) (a : Access) → (declares d ≡ true → passes a d ≡ true) → Lets a d
lets_from d a h b x = ⊎_elim (λ e. not_held _ (passes_bars d (h e) x)) (λ e. not_held _ (declares_nothing d e b)) (cases_Bool (declares d))

lets_passes : (d : Declared) (a : Access) → Lets a d → declares d ≡ true → passes a d ≡ true
unfolding passes declares
lets_passes d Rd h e = rw (h Wr rd_wr, h Cm rd_cm)
lets_passes d Wr h e = absurd (grind (arith, e, ap held (h Rd wr_rd), ap held (h Wr wr_wr), ap held (h Cm wr_cm)))
lets_passes d Cm h e = rw (h Rd cm_rd, h Wr cm_wr)

-- One more task at the front of the line.

entry_clear : (x : Bool) (a : Access) (n : ℕ) (e : Entry) (q : List Entry) → (e.number ≡ n → ⊥) → clear a (earlier n (cond x (e ∷ q) q)) ≡ true → (x ≡ true → passes a e.declared ≡ true) × (clear a (earlier n q) ≡ true)
unfolding clear earlier
entry_clear true a n e q f h = let g = rw (ne_eqb e.number n f) at h in ((λ y. grind arith), grind arith)
entry_clear false a n e q f h = ((λ y. cc), h)

clear_entry : (x : Bool) (a : Access) (n : ℕ) (e : Entry) (q : List Entry) → (x ≡ true → passes a e.declared ≡ true) → clear a (earlier n q) ≡ true → clear a (earlier n (cond x (e ∷ q) q)) ≡ true
unfolding clear earlier
clear_entry true a n e q p h = go (eqb e.number n)
  where
    go : (y : Bool) → clear a (cond y [] (e ∷ earlier n q)) ≡ true
    go true = refl
    go false = rw (p refl, h)
clear_entry false a n e q p h = h

clear_own : (x : Bool) (a : Access) (n : ℕ) (e : Entry) (q : List Entry) → x ≡ true → e.number ≡ n → clear a (earlier n (cond x (e ∷ q) q)) ≡ true
unfolding clear earlier
clear_own true a n e q h p = rw (eq-eqb e.number n p)
clear_own false a n e q h p = cc

-- The tasks before a clear one are apart from it, and the other way round.

abbrev Clear : List Member → Member → Type 0
Clear line s = (o : ℕ) (a : Access) → at s.task o a ≡ Immediate → clear a (earlier s.number (queue o line)) ≡ true

pub clear_apart : (s : Member) (before rest : List Member) → AllByRecursion (λ u. u.number ≡ s.number → ⊥) before → Clear (before ++ rest) s → AllByRecursion (λ u. Apart u.task s.task) before
unfolding queue on
clear_apart s [] rest f h = tt
clear_apart s (u ∷ us) rest f h =
    let parts : (o : ℕ) (a : Access) → at s.task o a ≡ Immediate → (declares (on u o) ≡ true → passes a (on u o) ≡ true) × (clear a (earlier s.number (queue o (us ++ rest))) ≡ true)
    = λ o a i. entry_clear (declares (on u o)) a s.number (record { number = u.number; declared = on u o }) (queue o (us ++ rest)) f.0 (h o a i) in
    ((λ o a b i x. lets_from (on u o) a (parts o a i).0 b x), clear_apart s us rest f.1 (λ o a i. (parts o a i).1))

declares_own : (d : Declared) (a : Access) → state d a ≡ Immediate → declares d ≡ true
unfolding declares
declares_own d Rd e = rw e
declares_own d Wr e = grind (arith, ap held e)
declares_own d Cm e = grind (arith, ap held e)

pub apart_clear : (s : Member) (before behind : List Member) → AllByRecursion (λ u. Apart u.task s.task) before → Clear (before ++ (s ∷ behind)) s
unfolding queue on
apart_clear s [] behind h o a i = clear_own (declares (on s o)) a s.number (record { number = s.number; declared = on s o }) (queue o behind) (declares_own (on s o) a i) refl
apart_clear s (u ∷ us) behind h o a i =
    clear_entry (declares (on u o)) a s.number (record { number = u.number; declared = on u o }) (queue o (us ++ (s ∷ behind)))
    (lets_passes (on u o) a (λ b x. h.0 o a b i x)) (apart_clear s us behind h.1 o a i)

-- Readiness is a test over the objects.

each_below : (n : ℕ) (f : ℕ → Bool) → each n f ≡ true → (i : ℕ) → i < n → f i ≡ true
unfolding each
each_below zero f h i l = absurd (omega arith)
each_below (suc n) f h i l = ⊎_elim (λ e. rw e (grind arith)) (λ g. each_below n f (grind arith) i (omega arith)) (cases_eq i n)

below_each : (n : ℕ) (f : ℕ → Bool) → ((i : ℕ) → f i ≡ true) → each n f ≡ true
unfolding each
below_each zero f h = refl
below_each (suc n) f h = rw (h n) (below_each n f h)

immediate_within : (t : Task) (o : ℕ) (a : Access) → at t o a ≡ Immediate → o < length t.declared
immediate_within t o a e = ⊎_elim (λ l. l) (λ g. absurd (past a (ap (λ d. state d a) (sym (get_or_past t.declared o nothing g)) ∙ e))) (cases_lt o (length t.declared))
  where
    past : (a : Access) → state nothing a ≡ Immediate → ⊥
    past Rd e = cc
    past Wr e = cc
    past Cm e = cc

clear_for_true : (line : List Member) (s : Member) (o : ℕ) (a : Access) → (at s.task o a ≡ Immediate → clear a (earlier s.number (queue o line)) ≡ true) → clear_for line s o a ≡ true
unfolding clear_for on
clear_for_true line s o a h = go (at s.task o a) h
  where
    go : (l : Level) → (l ≡ Immediate → clear a (earlier s.number (queue o line)) ≡ true) → (not (is_immediate l) || clear a (earlier s.number (queue o line))) ≡ true
    go Absent g = refl
    go Deferred g = refl
    go Immediate g = g refl

pub ready_clear : (line : List Member) (s : Member) → ready line s ≡ true → Clear line s
unfolding ready clear_for on
ready_clear line s h o a i =
    let p = each_below _ _ (and_parts _ _ h).1 o (immediate_within s.task o a i) in
    rw i at (pick a p)
  where
    pick : (a : Access) → (clear_for line s o Rd && (clear_for line s o Wr && clear_for line s o Cm)) ≡ true → clear_for line s o a ≡ true
    pick Rd p = grind arith
    pick Wr p = grind arith
    pick Cm p = grind arith

pub clear_ready : (line : List Member) (s : Member) → is_stuck s.status ≡ false → Clear line s → ready line s ≡ true
unfolding ready
clear_ready line s e h =
    let one : (o : ℕ) (a : Access) → clear_for line s o a ≡ true = λ o a. clear_for_true line s o a (h o a) in
    rw e (below_each _ _ (λ o. rw (one o Rd, one o Wr) (one o Cm)))
