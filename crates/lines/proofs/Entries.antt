-- What a change of the line, or of what a task declares, makes of the entries in line order.
use Rattle.std.proofs.Common.{◌≡◌, ℕ, suc, ◌≤◌, Bool, true, false, cond, not, eqb, List, [], ◌∷◌, length, sym, refl, ap, ◌∙◌, ap₂, ⊎_elim, arith}
use Rattle.std.proofs.lemmas.Bool.{cond-true, cond-false, eqb-true, eqb-false, ne_eqb, cases_Bool, and_from, and_left, and_right, not_from_true, both_ways}
use Rattle.working.specs.declared.declared.Declared.{Declared}
use Rattle.runs.specs.declared.entry.Entry.{Entry}
use Rattle.runs.specs.Queues.{declares}
use Rattle.lines.specs.Rows.{itself, entry_number, put_before, without, revised, absent, apart}
use Rattle.lines.specs.Changes.{entry, entered, redeclared, left}
use Rattle.lines.proofs.Numbers.{absent_parts, absent_from, apart_parts}

-- an entry for each of the numbers that declares anything, where task n declares f n
unfoldable pub entries : (ℕ → Declared) → List ℕ → List Entry
entries f [] = []
entries f (n ∷ ns) = cond (declares (f n)) (entry n (f n) ∷ entries f ns) (entries f ns)

module _ (f : ℕ → Declared) where
  -- with the front of the line taken off
  front : (m : ℕ) (ms : List ℕ) → entries f (m ∷ ms) ≡ cond (declares (f m)) (entry m (f m) ∷ entries f ms) (entries f ms)
  unfolding entries
  front m ms = refl

  out_none : (n : ℕ) (ns : List ℕ) → absent itself n ns ≡ true → without entry_number n (entries f ns) ≡ entries f ns
  unfolding entries without
  out_none n [] h = refl
  out_none n (m ∷ ms) h =
      let p = absent_parts itself n m ms h in go (declares (f m)) (ne_eqb m n p.0) (out_none n ms p.1)
    where
      go : (x : Bool) → eqb m n ≡ false → without entry_number n (entries f ms) ≡ entries f ms → without entry_number n (cond x (entry m (f m) ∷ entries f ms) (entries f ms)) ≡ cond x (entry m (f m) ∷ entries f ms) (entries f ms)
      go true e i = cond-false (eqb m n) (entries f ms) (entry m (f m) ∷ without entry_number n (entries f ms)) e ∙ ap (λ (l : List Entry). entry m (f m) ∷ l) i
      go false e i = i

  pub entries_short : (ns : List ℕ) → length (entries f ns) ≤ length ns
  unfolding entries
  entries_short [] = omega arith
  entries_short (m ∷ ms) = go (declares (f m)) (entries_short ms)
    where
      go : (x : Bool) → length (entries f ms) ≤ length ms → length (cond x (entry m (f m) ∷ entries f ms) (entries f ms)) ≤ suc (length ms)
      go true h = omega arith
      go false h = omega arith

  pub absent_entries : (n : ℕ) (ns : List ℕ) → absent itself n ns ≡ true → absent entry_number n (entries f ns) ≡ true
  unfolding entries absent
  absent_entries n [] h = refl
  absent_entries n (m ∷ ms) h = let p = absent_parts itself n m ms h in go (declares (f m)) p.0 (absent_entries n ms p.1)
    where
      go : (x : Bool) → (m ≡ n → ⊥) → absent entry_number n (entries f ms) ≡ true → absent entry_number n (cond x (entry m (f m) ∷ entries f ms) (entries f ms)) ≡ true
      go true e i = absent_from entry_number n (entry m (f m)) (entries f ms) e i
      go false e i = i

  pub apart_entries : (ns : List ℕ) → apart itself ns ≡ true → apart entry_number (entries f ns) ≡ true
  unfolding entries apart
  apart_entries [] h = refl
  apart_entries (m ∷ ms) h = let p = apart_parts itself m ms h in go (declares (f m)) (absent_entries m ms p.0) (apart_entries ms p.1)
    where
      go : (x : Bool) → absent entry_number m (entries f ms) ≡ true → apart entry_number (entries f ms) ≡ true → apart entry_number (cond x (entry m (f m) ∷ entries f ms) (entries f ms)) ≡ true
      go true a i = and_from _ _ a i
      go false a i = i

  -- a task leaves
  pub entries_left : (n : ℕ) (ns : List ℕ) → apart itself ns ≡ true → entries f (without itself n ns) ≡ left n (entries f ns)
  unfolding entries without
  entries_left n [] h = refl
  entries_left n (m ∷ ms) h =
      let p = apart_parts itself m ms h in
      ⊎_elim (λ e. ap (entries f) (cond-true (eqb m n) ms (m ∷ without itself n ms) e) ∙ here (declares (f m)) e (out_none n ms (ap (λ (k : ℕ). absent itself k ms) (sym (eqb-true m n e)) ∙ p.0)))
      (λ e. ap (entries f) (cond-false (eqb m n) ms (m ∷ without itself n ms) e) ∙ later (declares (f m)) e (entries_left n ms p.1))
      (cases_Bool (eqb m n))
    where
      here : (x : Bool) → eqb m n ≡ true → without entry_number n (entries f ms) ≡ entries f ms → entries f ms ≡ without entry_number n (cond x (entry m (f m) ∷ entries f ms) (entries f ms))
      here true e i = sym (cond-true (eqb m n) (entries f ms) (entry m (f m) ∷ without entry_number n (entries f ms)) e)
      here false e i = sym i

      later : (x : Bool) → eqb m n ≡ false → entries f (without itself n ms) ≡ without entry_number n (entries f ms) → cond x (entry m (f m) ∷ entries f (without itself n ms)) (entries f (without itself n ms)) ≡ without entry_number n (cond x (entry m (f m) ∷ entries f ms) (entries f ms))
      later true e i = ap (λ (l : List Entry). entry m (f m) ∷ l) i ∙ sym (cond-false (eqb m n) (entries f ms) (entry m (f m) ∷ without entry_number n (entries f ms)) e)
      later false e i = i

-- f and g differ at n alone
module _ (f g : ℕ → Declared) (n : ℕ) (other : (k : ℕ) → (k ≡ n → ⊥) → g k ≡ f k) where
  pub entries_other : (ns : List ℕ) → absent itself n ns ≡ true → entries g ns ≡ entries f ns
  unfolding entries
  entries_other [] h = refl
  entries_other (m ∷ ms) h =
      let p = absent_parts itself n m ms h in
      ap₂ (λ (d : Declared) (l : List Entry). cond (declares d) (entry m d ∷ l) l) (other m p.0) (entries_other ms p.1)

  -- a child enters
  enter_here : (x y : Bool) (e : Entry) (es : List Entry) (m : ℕ) → eqb e.number m ≡ true → (y ≡ true → x ≡ true)
      → cond y (entry n (g n) ∷ cond x (e ∷ es) es) (cond x (e ∷ es) es) ≡ cond y (put_before entry_number m (entry n (g n)) (cond x (e ∷ es) es)) (cond x (e ∷ es) es)
  unfolding put_before
  enter_here true true e es m t h = sym (cond-true (eqb e.number m) (entry n (g n) ∷ e ∷ es) (e ∷ put_before entry_number m (entry n (g n)) es) t)
  enter_here false true e es m t h = let z : false ≡ true = h refl in absurd (both_ways false refl z)
  enter_here x false e es m t h = refl

  enter_later : (x y : Bool) (e : Entry) (es : List Entry) (m : ℕ) → eqb e.number m ≡ false
      → cond x (e ∷ cond y (put_before entry_number m (entry n (g n)) es) es) (cond y (put_before entry_number m (entry n (g n)) es) es) ≡ cond y (put_before entry_number m (entry n (g n)) (cond x (e ∷ es) es)) (cond x (e ∷ es) es)
  unfolding put_before
  enter_later true true e es m t = sym (cond-false (eqb e.number m) (entry n (g n) ∷ e ∷ es) (e ∷ put_before entry_number m (entry n (g n)) es) t)
  enter_later true false e es m t = refl
  enter_later false true e es m t = refl
  enter_later false false e es m t = refl

  pub entries_enter : (m : ℕ) (ns : List ℕ) → (absent itself m ns ≡ false → declares (g n) ≡ true → declares (f m) ≡ true) → absent itself n ns ≡ true → entries g (put_before itself m n ns) ≡ entered m n (g n) (entries f ns)
  unfolding entries put_before absent
  entries_enter m [] rule h = refl
  entries_enter m (k ∷ ks) rule h =
      let p = absent_parts itself n k ks h in
      ⊎_elim
      (λ e. ap (entries g) (cond-true (eqb k m) (n ∷ k ∷ ks) (k ∷ put_before itself m n ks) e)
      ∙ ap (λ (l : List Entry). cond (declares (g n)) (entry n (g n) ∷ l) l) (entries_other (k ∷ ks) h)
      ∙ enter_here (declares (f k)) (declares (g n)) (entry k (f k)) (entries f ks) m e (λ y. ap (λ (j : ℕ). declares (f j)) (eqb-true k m e) ∙ rule (and_left (not (eqb k m)) (absent itself m ks) (not_from_true (eqb k m) e)) y))
      (λ e. ap (entries g) (cond-false (eqb k m) (n ∷ k ∷ ks) (k ∷ put_before itself m n ks) e)
      ∙ ap₂ (λ (d : Declared) (l : List Entry). cond (declares d) (entry k d ∷ l) l) (other k p.0) (entries_enter m ks (λ a. rule (and_right (not (eqb k m)) (absent itself m ks) a)) p.1)
      ∙ enter_later (declares (f k)) (declares (g n)) (entry k (f k)) (entries f ks) m e)
      (cases_Bool (eqb k m))

  -- a task declares otherwise
  change_here : (x y : Bool) (e : Entry) (es : List Entry) → eqb e.number n ≡ true → (y ≡ true → x ≡ true) → without entry_number n es ≡ es
      → cond y (entry n (g n) ∷ es) es ≡ cond y (revised entry_number n (entry n (g n)) (cond x (e ∷ es) es)) (without entry_number n (cond x (e ∷ es) es))
  unfolding revised without
  change_here true true e es t h i = sym (cond-true (eqb e.number n) (entry n (g n) ∷ es) (e ∷ revised entry_number n (entry n (g n)) es) t)
  change_here false true e es t h i = let z : false ≡ true = h refl in absurd (both_ways false refl z)
  change_here true false e es t h i = sym (cond-true (eqb e.number n) es (e ∷ without entry_number n es) t)
  change_here false false e es t h i = sym i

  change_later : (x y : Bool) (e : Entry) (es : List Entry) → eqb e.number n ≡ false
      → cond x (e ∷ cond y (revised entry_number n (entry n (g n)) es) (without entry_number n es)) (cond y (revised entry_number n (entry n (g n)) es) (without entry_number n es)) ≡ cond y (revised entry_number n (entry n (g n)) (cond x (e ∷ es) es)) (without entry_number n (cond x (e ∷ es) es))
  unfolding revised without
  change_later true true e es t = sym (cond-false (eqb e.number n) (entry n (g n) ∷ es) (e ∷ revised entry_number n (entry n (g n)) es) t)
  change_later true false e es t = sym (cond-false (eqb e.number n) es (e ∷ without entry_number n es) t)
  change_later false true e es t = refl
  change_later false false e es t = refl

  nobody : (y : Bool) → [] ≡ cond y (revised entry_number n (entry n (g n)) []) (without entry_number n [])
  unfolding revised without
  nobody true = refl
  nobody false = refl

  pub entries_redeclared : (declares (g n) ≡ true → declares (f n) ≡ true) → (ns : List ℕ) → apart itself ns ≡ true → entries g ns ≡ redeclared n (g n) (entries f ns)
  unfolding entries
  entries_redeclared rule [] h = nobody (declares (g n))
  entries_redeclared rule (k ∷ ks) h =
      let p = apart_parts itself k ks h in
      ⊎_elim
      (λ e. let is = eqb-true k n e in let none : absent itself n ks ≡ true = ap (λ (j : ℕ). absent itself j ks) (sym is) ∙ p.0 in
      ap₂ (λ (j : ℕ) (l : List Entry). cond (declares (g j)) (entry j (g j) ∷ l) l) is (entries_other ks none)
      ∙ change_here (declares (f k)) (declares (g n)) (entry k (f k)) (entries f ks) e (λ y. ap (λ (j : ℕ). declares (f j)) is ∙ rule y) (out_none f n ks none))
      (λ e. ap₂ (λ (d : Declared) (l : List Entry). cond (declares d) (entry k d ∷ l) l) (other k (eqb-false k n e)) (entries_redeclared rule ks p.1)
      ∙ change_later (declares (f k)) (declares (g n)) (entry k (f k)) (entries f ks) e)
      (cases_Bool (eqb k n))
