-- A task that is clear stays so, while others leave, declare less, or make children that declare no more than they.
use Rattle.std.proofs.Common.{◌≡◌, ℕ, zero, suc, Bool, true, false, cond, not, ◌&&◌, ◌||◌, eqb, List, [], ◌∷◌, length, get_or, sym, refl, ap, ◌∙◌}
use Rattle.std.proofs.lemmas.Bool.{and_parts, and_from, or_parts, or_from, or_left, not-true, not_from_false, both_ways, eqb-true, eqb-false, ne_eqb}
use Rattle.cards.specs.declared.lines.Access.{Access}
use Rattle.cards.specs.declared.lines.Access.TheVariants.{Rd, Wr, Cm}
use Rattle.working.specs.declared.declared.Declared.{Declared}
use Rattle.working.specs.Tasks.{nothing, held, is_immediate}
use Rattle.runs.specs.declared.entry.Entry.{Entry}
use Rattle.runs.specs.Queues.{declares}
use Rattle.runs.specs.Ready.{passes, each}
use Rattle.lines.specs.declared.clear.Clear.{Clear}
use Rattle.lines.specs.Rows.{entry_number, put_before, without, revised}
use Rattle.lines.specs.Stored.{declared_in, declared_by}
use Rattle.lines.specs.Clears.{at_first, past, lets, clear_from, clear_in}
use Rattle.lines.specs.Changes.{entry, entered, redeclared, left, Narrower}
use Rattle.lines.proofs.Declareds.{declared_at, not_held, here, behind}

-- what is clear under the first is clear under the second
abbrev Clearer : Clear → Clear → Type 0
Clearer c c' = (c.reads ≡ true → c'.reads ≡ true) × (c.writes ≡ true → c'.writes ≡ true) × (c.commutes ≡ true → c'.commutes ≡ true)

-- what passes the first passes the second
abbrev Eases : Declared → Declared → Type 0
Eases d d' = (a : Access) → passes a d ≡ true → passes a d' ≡ true

never : {P : Type 0} → false ≡ true → P
never e = absurd (both_ways false refl e)

clearer_past : (c c' : Clear) (d d' : Declared) → Clearer c c' → Eases d d' → Clearer (past c d) (past c' d')
clearer_past c c' d d' h n = (
  (λ e. let p = and_parts c.reads (passes Rd d) e in and_from _ _ (h.0 p.0) (n Rd p.1)),
  (λ e. never e),
  (λ e. let p = and_parts c.commutes (passes Cm d) e in and_from _ _ (h.2 p.0) (n Cm p.1)),
)

clearer_before : (c c' : Clear) (d : Declared) → Clearer c c' → Clearer (past c d) c'
clearer_before c c' d h = (
  (λ e. h.0 (and_parts c.reads (passes Rd d) e).0),
  (λ e. never e),
  (λ e. h.2 (and_parts c.commutes (passes Cm d) e).0),
)

clearer_between : (c c' : Clear) (d e : Declared) → Clearer c c' → Eases e d → Clearer (past c e) (past (past c' d) e)
clearer_between c c' d e h n = (
  (λ y. let p = and_parts c.reads (passes Rd e) y in and_from _ _ (and_from _ _ (h.0 p.0) (n Rd p.1)) p.1),
  (λ y. never y),
  (λ y. let p = and_parts c.commutes (passes Cm e) y in and_from _ _ (and_from _ _ (h.2 p.0) (n Cm p.1)) p.1),
)

or_more : (x b b' : Bool) → (b ≡ true → b' ≡ true) → (x || b) ≡ true → (x || b') ≡ true
or_more true b b' h e = refl
or_more false b b' h e = h e

lets_more : (c c' : Clear) (d : Declared) → Clearer c c' → lets c d ≡ true → lets c' d ≡ true
lets_more c c' d h e =
    let p = and_parts (not (is_immediate d.reads) || c.reads) ((not (is_immediate d.writes) || c.writes) && (not (is_immediate d.commutes) || c.commutes)) e in
    let q = and_parts (not (is_immediate d.writes) || c.writes) (not (is_immediate d.commutes) || c.commutes) p.1 in
    and_from _ _ (or_more (not (is_immediate d.reads)) c.reads c'.reads h.0 p.0)
    (and_from _ _ (or_more (not (is_immediate d.writes)) c.writes c'.writes h.1 q.0) (or_more (not (is_immediate d.commutes)) c.commutes c'.commutes h.2 q.1))

module _ (k : ℕ) where
  parts : (c : Clear) (e : Entry) (es : List Entry) → clear_from k c (e ∷ es) ≡ true → ((not (eqb e.number k) || lets c e.declared) ≡ true) × (clear_from k (past c e.declared) es ≡ true)
  unfolding clear_from
  parts c e es h = and_parts (not (eqb e.number k) || lets c e.declared) (clear_from k (past c e.declared) es) h

  -- the same entry in front
  same_front : (c c' : Clear) (e : Entry) (es : List Entry) → Clearer c c' → (not (eqb e.number k) || lets c e.declared) ≡ true → clear_from k (past c' e.declared) es ≡ true → clear_from k c' (e ∷ es) ≡ true
  unfolding clear_from
  same_front c c' e es h p q = and_from _ _ (or_more (not (eqb e.number k)) (lets c e.declared) (lets c' e.declared) (lets_more c c' e.declared h) p) q

  -- an entry of another task in front
  other_front : (c : Clear) (e : Entry) (es : List Entry) → (e.number ≡ k → ⊥) → clear_from k (past c e.declared) es ≡ true → clear_from k c (e ∷ es) ≡ true
  unfolding clear_from
  other_front c e es f q = and_from _ _ (or_left (not (eqb e.number k)) (lets c e.declared) (not_from_false (eqb e.number k) (ne_eqb e.number k f))) q

  clear_more : (c c' : Clear) (es : List Entry) → Clearer c c' → clear_from k c es ≡ true → clear_from k c' es ≡ true
  unfolding clear_from
  clear_more c c' [] h e = refl
  clear_more c c' (x ∷ xs) h e =
      let p = parts c x xs e in
      same_front c c' x xs h p.0 (clear_more (past c x.declared) (past c' x.declared) xs (clearer_past c c' x.declared x.declared h (λ a y. y)) p.1)

  left_from : (n : ℕ) (c c' : Clear) (es : List Entry) → Clearer c c' → clear_from k c es ≡ true → clear_from k c' (left n es) ≡ true
  unfolding clear_from without
  left_from n c c' [] h e = refl
  left_from n c c' (x ∷ xs) h e =
      let p = parts c x xs e in
      go (eqb x.number n)
      (clear_more (past c x.declared) c' xs (clearer_before c c' x.declared h) p.1)
      (same_front c c' x (without entry_number n xs) h p.0 (left_from n (past c x.declared) (past c' x.declared) xs (clearer_past c c' x.declared x.declared h (λ a y. y)) p.1))
    where
      go : (b : Bool) → clear_from k c' xs ≡ true → clear_from k c' (x ∷ without entry_number n xs) ≡ true → clear_from k c' (cond b xs (x ∷ without entry_number n xs)) ≡ true
      go true i j = i
      go false i j = j

  revised_from : (n : ℕ) → (n ≡ k → ⊥) → (d : Declared) (c c' : Clear) (es : List Entry) → Clearer c c' → Eases (declared_in es n) d → clear_from k c es ≡ true → clear_from k c' (revised entry_number n (entry n d) es) ≡ true
  unfolding clear_from revised
  revised_from n f d c c' [] h m e = refl
  revised_from n f d c c' (x ∷ xs) h m e =
      let p = parts c x xs e in
      go (eqb x.number n) refl p.0 p.1 (revised_from n f d (past c x.declared) (past c' x.declared) xs (clearer_past c c' x.declared x.declared h (λ a y. y)))
    where
      go : (b : Bool) → eqb x.number n ≡ b → (not (eqb x.number k) || lets c x.declared) ≡ true → clear_from k (past c x.declared) xs ≡ true → (Eases (declared_in xs n) d → clear_from k (past c x.declared) xs ≡ true → clear_from k (past c' x.declared) (revised entry_number n (entry n d) xs) ≡ true)
          → clear_from k c' (cond b (entry n d ∷ xs) (x ∷ revised entry_number n (entry n d) xs)) ≡ true
      go true t p q i =
          other_front c' (entry n d) xs f (clear_more (past c x.declared) (past c' d) xs (clearer_past c c' x.declared d h (λ a y. m a (ap (passes a) (here x xs n (eqb-true x.number n t)) ∙ y))) q)
      go false t p q i =
          same_front c c' x (revised entry_number n (entry n d) xs) h p (i (λ a y. m a (ap (passes a) (behind x xs n (eqb-false x.number n t)) ∙ y)) q)

  put_from : (n m : ℕ) → (n ≡ k → ⊥) → (m ≡ k → ⊥) → (d : Declared) (c c' : Clear) (es : List Entry) → Clearer c c' → Eases (declared_in es m) d → clear_from k c es ≡ true → clear_from k c' (put_before entry_number m (entry n d) es) ≡ true
  unfolding clear_from put_before
  put_from n m f g d c c' [] h s e = other_front c' (entry n d) [] f refl
  put_from n m f g d c c' (x ∷ xs) h s e =
      let p = parts c x xs e in
      go (eqb x.number m) refl p.0 p.1 (put_from n m f g d (past c x.declared) (past c' x.declared) xs (clearer_past c c' x.declared x.declared h (λ a y. y)))
    where
      go : (b : Bool) → eqb x.number m ≡ b → (not (eqb x.number k) || lets c x.declared) ≡ true → clear_from k (past c x.declared) xs ≡ true → (Eases (declared_in xs m) d → clear_from k (past c x.declared) xs ≡ true → clear_from k (past c' x.declared) (put_before entry_number m (entry n d) xs) ≡ true)
          → clear_from k c' (cond b (entry n d ∷ x ∷ xs) (x ∷ put_before entry_number m (entry n d) xs)) ≡ true
      go true t p q i =
          let is = eqb-true x.number m t in
          other_front c' (entry n d) (x ∷ xs) f (other_front (past c' d) x xs (λ y. g (sym is ∙ y)) (clear_more (past c x.declared) (past (past c' d) x.declared) xs (clearer_between c c' d x.declared h (λ a y. s a (ap (passes a) (here x xs m is) ∙ y))) q))
      go false t p q i =
          same_front c c' x (put_before entry_number m (entry n d) xs) h p (i (λ a y. s a (ap (passes a) (behind x xs m (eqb-false x.number m t)) ∙ y)) q)

  abbrev itself_clear : Clearer at_first at_first
  itself_clear = ((λ e. e), (λ e. e), (λ e. e))

  entered_from : (m n : ℕ) → (n ≡ k → ⊥) → (m ≡ k → ⊥) → (d : Declared) (es : List Entry) → Eases (declared_in es m) d → clear_from k at_first es ≡ true → clear_from k at_first (entered m n d es) ≡ true
  entered_from m n f g d es s e = go (declares d)
    where
      go : (b : Bool) → clear_from k at_first (cond b (put_before entry_number m (entry n d) es) es) ≡ true
      go true = put_from n m f g d at_first at_first es itself_clear s e
      go false = e

  redeclared_from : (n : ℕ) → (n ≡ k → ⊥) → (d : Declared) (es : List Entry) → Eases (declared_in es n) d → clear_from k at_first es ≡ true → clear_from k at_first (redeclared n d es) ≡ true
  redeclared_from n f d es s e = go (declares d)
    where
      go : (b : Bool) → clear_from k at_first (cond b (revised entry_number n (entry n d) es) (without entry_number n es)) ≡ true
      go true = revised_from n f d at_first at_first es itself_clear s e
      go false = left_from n at_first at_first es itself_clear e

-- In all queues.

each_more : (k : ℕ) (f g : ℕ → Bool) → ((o : ℕ) → f o ≡ true → g o ≡ true) → each k f ≡ true → each k g ≡ true
unfolding each
each_more zero f g h e = refl
each_more (suc k) f g h e = let p = and_parts (f k) (each k f) e in and_from _ _ (h k p.0) (each_more k f g h p.1)

in_all : (k : ℕ) (qs qs' : List (List Entry)) → length qs' ≡ length qs → ((o : ℕ) → clear_from k at_first (get_or qs o []) ≡ true → clear_from k at_first (get_or qs' o []) ≡ true) → clear_in qs k ≡ true → clear_in qs' k ≡ true
unfolding clear_in
in_all k qs qs' long h e =
    ap (λ (j : ℕ). each j (λ o. clear_from k at_first (get_or qs' o []))) long
    ∙ each_more (length qs) (λ o. clear_from k at_first (get_or qs o [])) (λ o. clear_from k at_first (get_or qs' o [])) h e

eases : (old new : List Declared) → Narrower old new → (o : ℕ) → Eases (get_or old o nothing) (get_or new o nothing)
unfolding passes
eases old new h o Rd e =
    let p = or_parts (held (get_or old o nothing).writes) (held (get_or old o nothing).commutes) (not-true _ e) in
    not_from_false _ (or_from _ _ (ap held (h o Wr (not_held _ p.0))) (ap held (h o Cm (not_held _ p.1))))
eases old new h o Wr e = e
eases old new h o Cm e =
    let p = or_parts (held (get_or old o nothing).reads) (held (get_or old o nothing).writes) (not-true _ e) in
    not_from_false _ (or_from _ _ (ap held (h o Rd (not_held _ p.0))) (ap held (h o Wr (not_held _ p.1))))

module _ (qs qs' : List (List Entry)) (long : length qs' ≡ length qs) (k : ℕ) where
  eases_in : (n : ℕ) (ds : List Declared) → Narrower (declared_by qs n) ds → (o : ℕ) → Eases (declared_in (get_or qs o []) n) (get_or ds o nothing)
  eases_in n ds h o a y = eases (declared_by qs n) ds h o a (ap (passes a) (declared_at qs n o) ∙ y)

  pub entered_clear : (m n : ℕ) (ds : List Declared) → (n ≡ k → ⊥) → (m ≡ k → ⊥) → Narrower (declared_by qs m) ds → ((o : ℕ) → get_or qs' o [] ≡ entered m n (get_or ds o nothing) (get_or qs o [])) → clear_in qs k ≡ true → clear_in qs' k ≡ true
  entered_clear m n ds f g h new = in_all k qs qs' long (λ o e. ap (clear_from k at_first) (new o) ∙ entered_from k m n f g (get_or ds o nothing) (get_or qs o []) (eases_in m ds h o) e)

  pub redeclared_clear : (n : ℕ) (ds : List Declared) → (n ≡ k → ⊥) → Narrower (declared_by qs n) ds → ((o : ℕ) → get_or qs' o [] ≡ redeclared n (get_or ds o nothing) (get_or qs o [])) → clear_in qs k ≡ true → clear_in qs' k ≡ true
  redeclared_clear n ds f h new = in_all k qs qs' long (λ o e. ap (clear_from k at_first) (new o) ∙ redeclared_from k n f (get_or ds o nothing) (get_or qs o []) (eases_in n ds h o) e)

  pub left_clear : (n : ℕ) → ((o : ℕ) → get_or qs' o [] ≡ left n (get_or qs o [])) → clear_in qs k ≡ true → clear_in qs' k ≡ true
  left_clear n new = in_all k qs qs' long (λ o e. ap (clear_from k at_first) (new o) ∙ left_from k n at_first at_first (get_or qs o []) (itself_clear k) e)
