-- What a task declares by a queue that was changed.
use Rattle.std.proofs.Common.{◌≡◌, ℕ, zero, suc, Bool, true, false, cond, ◌||◌, eqb, List, [], ◌∷◌, length, get_or, sym, refl, ap, ◌∙◌, ⊎_elim}
use Rattle.std.proofs.lemmas.List.{length-map, ext_get_or}
use Rattle.std.proofs.lemmas.Bool.{cond-true, cond-false, eqb-true, eqb-false, eq-eqb, ne_eqb, or_parts, or_from, both_ways, cases_Bool}
use Rattle.cards.specs.declared.lines.Access.{Access}
use Rattle.cards.specs.declared.lines.Access.TheVariants.{Rd, Wr, Cm}
use Rattle.cards.specs.declared.lines.Level.{Level}
use Rattle.cards.specs.declared.lines.Level.TheVariants.{Absent, Deferred, Immediate}
use Rattle.working.specs.declared.declared.Declared.{Declared}
use Rattle.working.specs.Tasks.{nothing, state, held}
use Rattle.runs.specs.declared.entry.Entry.{Entry}
use Rattle.runs.specs.Queues.{declares}
use Rattle.lines.specs.Rows.{entry_number, put_before, without, revised, absent, apart}
use Rattle.lines.specs.Stored.{declared_in, declared_by}
use Rattle.lines.specs.Changes.{entry, entered, redeclared, left, Narrower}
use Rattle.working.proofs.Fine.{state_nothing}
use Rattle.lines.proofs.Numbers.{absent_parts, apart_parts}
use Rattle.lines.proofs.Sames.{declared_from}

pub declared_at : (qs : List (List Entry)) (n o : ℕ) → get_or (declared_by qs n) o nothing ≡ declared_in (get_or qs o []) n
unfolding declared_by declared_in
declared_at [] n o = refl
declared_at (es ∷ qs) n zero = refl
declared_at (es ∷ qs) n (suc o) = declared_at qs n o

pub length_declared : (qs : List (List Entry)) (n : ℕ) → length (declared_by qs n) ≡ length qs
unfolding declared_by
length_declared qs n = length-map qs (λ es. declared_in es n)

pub declared_by_is : (qs : List (List Entry)) (n : ℕ) (ds : List Declared) → length ds ≡ length qs → ((o : ℕ) → declared_in (get_or qs o []) n ≡ get_or ds o nothing) → declared_by qs n ≡ ds
declared_by_is qs n ds e h = ext_get_or nothing (declared_by qs n) ds (length_declared qs n ∙ sym e) (λ o _. declared_at qs n o ∙ h o)

pub declared_by_same : (qs qs' : List (List Entry)) (n : ℕ) → length qs' ≡ length qs → ((o : ℕ) → declared_in (get_or qs' o []) n ≡ declared_in (get_or qs o []) n) → declared_by qs' n ≡ declared_by qs n
declared_by_same qs qs' n e h = declared_by_is qs' n (declared_by qs n) (length_declared qs n ∙ sym e) (λ o. h o ∙ sym (declared_at qs n o))

pub not_held : (l : Level) → held l ≡ false → l ≡ Absent
not_held Absent e = refl
not_held Deferred e = cc
not_held Immediate e = cc

declares_none : (d : Declared) → declares d ≡ false → d ≡ nothing
unfolding declares
declares_none d e =
    let p = or_parts (held d.reads) (held d.writes || held d.commutes) e in
    let q = or_parts (held d.writes) (held d.commutes) p.1 in
    declared_from d nothing (not_held d.reads p.0) (not_held d.writes q.0) (not_held d.commutes q.1)

-- who declares nothing, by accesses
declares_absent : (d : Declared) → ((a : Access) → state d a ≡ Absent) → declares d ≡ false
unfolding declares
declares_absent d h = or_from _ _ (ap held (h Rd)) (or_from _ _ (ap held (h Wr)) (ap held (h Cm)))

pub narrower_declares : (old new : List Declared) → Narrower old new → (o : ℕ) → declares (get_or new o nothing) ≡ true → declares (get_or old o nothing) ≡ true
narrower_declares old new h o e =
    ⊎_elim (λ y. y) (λ f. absurd (both_ways (declares (get_or new o nothing)) (declares_absent (get_or new o nothing) (λ a. h o a (ap (λ d. state d a) (declares_none (get_or old o nothing) f) ∙ state_nothing a))) e)) (cases_Bool (declares (get_or old o nothing)))

-- The first entry is another task's, or its own.

pub behind : (e : Entry) (es : List Entry) (n : ℕ) → (e.number ≡ n → ⊥) → declared_in (e ∷ es) n ≡ declared_in es n
unfolding declared_in
behind e es n f = cond-false (eqb e.number n) e.declared (declared_in es n) (ne_eqb e.number n f)

pub here : (e : Entry) (es : List Entry) (n : ℕ) → e.number ≡ n → declared_in (e ∷ es) n ≡ e.declared
unfolding declared_in
here e es n p = cond-true (eqb e.number n) e.declared (declared_in es n) (eq-eqb e.number n p)

-- two rows with the same front
front : (e : Entry) (es fs : List Entry) (n : ℕ) → declared_in es n ≡ declared_in fs n → declared_in (e ∷ es) n ≡ declared_in (e ∷ fs) n
unfolding declared_in
front e es fs n h = ap (cond (eqb e.number n) e.declared) h

declared_none : (es : List Entry) (n : ℕ) → absent entry_number n es ≡ true → declared_in es n ≡ nothing
unfolding declared_in
declared_none [] n h = refl
declared_none (e ∷ es) n h = let p = absent_parts entry_number n e es h in behind e es n p.0 ∙ declared_none es n p.1

-- One enters.

put_other : (m : ℕ) (e : Entry) (es : List Entry) (k : ℕ) → (e.number ≡ k → ⊥) → declared_in (put_before entry_number m e es) k ≡ declared_in es k
unfolding put_before
put_other m e [] k f = behind e [] k f
put_other m e (x ∷ xs) k f = go (eqb x.number m) (put_other m e xs k f)
  where
    go : (b : Bool) → declared_in (put_before entry_number m e xs) k ≡ declared_in xs k → declared_in (cond b (e ∷ x ∷ xs) (x ∷ put_before entry_number m e xs)) k ≡ declared_in (x ∷ xs) k
    go true i = behind e (x ∷ xs) k f
    go false i = front x (put_before entry_number m e xs) xs k i

put_own : (m : ℕ) (e : Entry) (es : List Entry) → absent entry_number e.number es ≡ true → declared_in (put_before entry_number m e es) e.number ≡ e.declared
unfolding put_before
put_own m e [] h = here e [] e.number refl
put_own m e (x ∷ xs) h = let p = absent_parts entry_number e.number x xs h in go (eqb x.number m) p.0 (put_own m e xs p.1)
  where
    go : (b : Bool) → (x.number ≡ e.number → ⊥) → declared_in (put_before entry_number m e xs) e.number ≡ e.declared → declared_in (cond b (e ∷ x ∷ xs) (x ∷ put_before entry_number m e xs)) e.number ≡ e.declared
    go true p i = here e (x ∷ xs) e.number refl
    go false p i = behind x (put_before entry_number m e xs) e.number p ∙ i

pub entered_own : (m n : ℕ) (d : Declared) (es : List Entry) → absent entry_number n es ≡ true → declared_in (entered m n d es) n ≡ d
entered_own m n d es h = go (declares d) refl
  where
    go : (b : Bool) → declares d ≡ b → declared_in (cond b (put_before entry_number m (entry n d) es) es) n ≡ d
    go true e = put_own m (entry n d) es h
    go false e = declared_none es n h ∙ sym (declares_none d e)

pub entered_other : (m n : ℕ) (d : Declared) (es : List Entry) (k : ℕ) → (k ≡ n → ⊥) → declared_in (entered m n d es) k ≡ declared_in es k
entered_other m n d es k f = go (declares d)
  where
    go : (b : Bool) → declared_in (cond b (put_before entry_number m (entry n d) es) es) k ≡ declared_in es k
    go true = put_other m (entry n d) es k (λ e. f (sym e))
    go false = refl

-- One leaves.

pub left_other : (n : ℕ) (es : List Entry) (k : ℕ) → (k ≡ n → ⊥) → declared_in (left n es) k ≡ declared_in es k
unfolding without
left_other n [] k f = refl
left_other n (x ∷ xs) k f = go (eqb x.number n) refl (left_other n xs k f)
  where
    go : (b : Bool) → eqb x.number n ≡ b → declared_in (without entry_number n xs) k ≡ declared_in xs k → declared_in (cond b xs (x ∷ without entry_number n xs)) k ≡ declared_in (x ∷ xs) k
    go true e i = sym (behind x xs k (λ p. f (sym p ∙ eqb-true x.number n e)))
    go false e i = front x (without entry_number n xs) xs k i

left_own : (n : ℕ) (es : List Entry) → apart entry_number es ≡ true → declared_in (left n es) n ≡ nothing
unfolding without declared_in
left_own n [] h = refl
left_own n (x ∷ xs) h = let p = apart_parts entry_number x xs h in go (eqb x.number n) refl p.0 (left_own n xs p.1)
  where
    go : (b : Bool) → eqb x.number n ≡ b → absent entry_number x.number xs ≡ true → declared_in (without entry_number n xs) n ≡ nothing → declared_in (cond b xs (x ∷ without entry_number n xs)) n ≡ nothing
    go true e a i = declared_none xs n (ap (λ (k : ℕ). absent entry_number k xs) (sym (eqb-true x.number n e)) ∙ a)
    go false e a i = behind x (without entry_number n xs) n (eqb-false x.number n e) ∙ i

-- One declares otherwise.

revise_other : (n : ℕ) (d : Declared) (es : List Entry) (k : ℕ) → (k ≡ n → ⊥) → declared_in (revised entry_number n (entry n d) es) k ≡ declared_in es k
unfolding revised
revise_other n d [] k f = refl
revise_other n d (x ∷ xs) k f = go (eqb x.number n) refl (revise_other n d xs k f)
  where
    go : (b : Bool) → eqb x.number n ≡ b → declared_in (revised entry_number n (entry n d) xs) k ≡ declared_in xs k → declared_in (cond b (entry n d ∷ xs) (x ∷ revised entry_number n (entry n d) xs)) k ≡ declared_in (x ∷ xs) k
    go true e i = behind (entry n d) xs k (λ p. f (sym p)) ∙ sym (behind x xs k (λ p. f (sym p ∙ eqb-true x.number n e)))
    go false e i = front x (revised entry_number n (entry n d) xs) xs k i

revise_own : (n : ℕ) (d : Declared) (es : List Entry) → declares (declared_in es n) ≡ true → declared_in (revised entry_number n (entry n d) es) n ≡ d
unfolding revised declared_in declares
revise_own n d [] h = absurd (both_ways false refl h)
revise_own n d (x ∷ xs) h = go (eqb x.number n) refl (revise_own n d xs)
  where
    go : (b : Bool) → eqb x.number n ≡ b → (declares (declared_in xs n) ≡ true → declared_in (revised entry_number n (entry n d) xs) n ≡ d) → declared_in (cond b (entry n d ∷ xs) (x ∷ revised entry_number n (entry n d) xs)) n ≡ d
    go true e i = here (entry n d) xs n refl
    go false e i =
        let f = eqb-false x.number n e in
        behind x (revised entry_number n (entry n d) xs) n f ∙ i (ap declares (sym (behind x xs n f)) ∙ h)

pub redeclared_own : (n : ℕ) (d : Declared) (es : List Entry) → apart entry_number es ≡ true → (declares d ≡ true → declares (declared_in es n) ≡ true) → declared_in (redeclared n d es) n ≡ d
redeclared_own n d es h rule = go (declares d) refl
  where
    go : (b : Bool) → declares d ≡ b → declared_in (cond b (revised entry_number n (entry n d) es) (without entry_number n es)) n ≡ d
    go true e = revise_own n d es (rule e)
    go false e = left_own n es h ∙ sym (declares_none d e)

pub redeclared_other : (n : ℕ) (d : Declared) (es : List Entry) (k : ℕ) → (k ≡ n → ⊥) → declared_in (redeclared n d es) k ≡ declared_in es k
redeclared_other n d es k f = go (declares d)
  where
    go : (b : Bool) → declared_in (cond b (revised entry_number n (entry n d) es) (without entry_number n es)) k ≡ declared_in es k
    go true = revise_other n d es k f
    go false = left_other n es k f
