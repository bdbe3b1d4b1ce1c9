-- The numbers of a row: where one enters and one leaves.
use Rattle.std.proofs.Common.{◌≡◌, ℕ, suc, ◌+◌, ◌<◌, ◌≤◌, Bool, true, false, cond, not, ◌&&◌, eqb, ltb, List, [], ◌∷◌, length, sym, refl, ap, ◌∙◌, ap₂, ⊎_elim, arith}
use Rattle.std.proofs.lemmas.Bool.{and_parts, and_from, not-true, not_from_false, both_ways, cases_Bool, cond-true, cond-false, eqb-true, eq-eqb, ne_eqb, lt-ltb, ltb-true}
use Rattle.lines.specs.Rows.{itself, put_before, without, absent, apart, below}

module _ {A : Type 0} (number : A → ℕ) where
  pub absent_parts : (n : ℕ) (x : A) (xs : List A) → absent number n (x ∷ xs) ≡ true → (number x ≡ n → ⊥) × (absent number n xs ≡ true)
  unfolding absent
  absent_parts n x xs h =
      let p = and_parts (not (eqb (number x) n)) (absent number n xs) h in
      ((λ e. both_ways (eqb (number x) n) (not-true (eqb (number x) n) p.0) (eq-eqb (number x) n e)), p.1)

  pub absent_from : (n : ℕ) (x : A) (xs : List A) → (number x ≡ n → ⊥) → absent number n xs ≡ true → absent number n (x ∷ xs) ≡ true
  unfolding absent
  absent_from n x xs f h = and_from _ _ (not_from_false _ (ne_eqb (number x) n f)) h

  pub apart_parts : (x : A) (xs : List A) → apart number (x ∷ xs) ≡ true → (absent number (number x) xs ≡ true) × (apart number xs ≡ true)
  unfolding apart
  apart_parts x xs h = and_parts (absent number (number x) xs) (apart number xs) h

-- A number that is there.

pub there_first : (n : ℕ) (ns : List ℕ) → absent itself n (n ∷ ns) ≡ false
unfolding absent
there_first n ns = ap (λ (b : Bool). not b && absent itself n ns) (eq-eqb n n refl)

pub there_later : (n m : ℕ) (ns : List ℕ) → absent itself n ns ≡ false → absent itself n (m ∷ ns) ≡ false
unfolding absent
there_later n m ns h = go (not (eqb m n))
  where
    go : (b : Bool) → (b && absent itself n ns) ≡ false
    go true = h
    go false = refl

-- it is not the first
pub there_behind : (n m : ℕ) (ns : List ℕ) → eqb m n ≡ false → absent itself n (m ∷ ns) ≡ false → absent itself n ns ≡ false
unfolding absent
there_behind n m ns e h = ap (λ (b : Bool). not b && absent itself n ns) (sym e) ∙ h

pub there_below : (k n : ℕ) (ns : List ℕ) → below k ns ≡ true → absent itself n ns ≡ false → n < k
unfolding below absent
there_below k n [] h g = absurd (both_ways true g refl)
there_below k n (m ∷ ms) h g =
    let p = and_parts (ltb m k) (below k ms) h in
    ⊎_elim (λ t. let e = eqb-true m n t in omega (arith, ltb-true m k p.0))
    (λ t. there_below k n ms p.1 (there_behind n m ms t g))
    (cases_Bool (eqb m n))

-- One enters, or leaves.

pub below_absent : (k : ℕ) (ns : List ℕ) → below k ns ≡ true → absent itself k ns ≡ true
unfolding below absent
below_absent k [] h = refl
below_absent k (n ∷ ns) h =
    let p = and_parts (ltb n k) (below k ns) h in
    and_from _ _ (not_from_false _ (ne_eqb n k (λ e. omega (arith, ltb-true n k p.0)))) (below_absent k ns p.1)

below_more : (k : ℕ) (ns : List ℕ) → below k ns ≡ true → below (k + 1) ns ≡ true
unfolding below
below_more k [] h = refl
below_more k (n ∷ ns) h =
    let p = and_parts (ltb n k) (below k ns) h in
    and_from _ _ (lt-ltb n (k + 1) (omega (arith, ltb-true n k p.0))) (below_more k ns p.1)

pub below_enter : (k m : ℕ) (ns : List ℕ) → below k ns ≡ true → below (k + 1) (put_before itself m k ns) ≡ true
unfolding below put_before
below_enter k m [] h = and_from (ltb k (k + 1)) true (lt-ltb k (k + 1) (omega arith)) refl
below_enter k m (n ∷ ns) h =
    let p = and_parts (ltb n k) (below k ns) h in
    let q : ltb n (k + 1) ≡ true = lt-ltb n (k + 1) (omega (arith, ltb-true n k p.0)) in
    go (eqb n m) q (below_enter k m ns p.1) (below_more k ns p.1)
  where
    go : (b : Bool) → ltb n (k + 1) ≡ true → below (k + 1) (put_before itself m k ns) ≡ true → below (k + 1) ns ≡ true → below (k + 1) (cond b (k ∷ n ∷ ns) (n ∷ put_before itself m k ns)) ≡ true
    go true q i r = and_from _ _ (lt-ltb k (k + 1) (omega arith)) (and_from _ _ q r)
    go false q i r = and_from _ _ q i

pub absent_put_same : (m c : ℕ) (ns : List ℕ) → absent itself c (put_before itself m c ns) ≡ false
unfolding absent put_before
absent_put_same m c [] = ap (λ (b : Bool). not b && true) (eq-eqb c c refl)
absent_put_same m c (k ∷ ks) = go (eqb k m) (absent_put_same m c ks)
  where
    later : (b : Bool) → absent itself c (put_before itself m c ks) ≡ false → (b && absent itself c (put_before itself m c ks)) ≡ false
    later true i = i
    later false i = refl

    go : (b : Bool) → absent itself c (put_before itself m c ks) ≡ false → absent itself c (cond b (c ∷ k ∷ ks) (k ∷ put_before itself m c ks)) ≡ false
    go true i = ap (λ (b : Bool). not b && absent itself c (k ∷ ks)) (eq-eqb c c refl)
    go false i = later (not (eqb k c)) i

pub absent_put_other : (m c j : ℕ) (ns : List ℕ) → (j ≡ c → ⊥) → absent itself j (put_before itself m c ns) ≡ absent itself j ns
unfolding absent put_before
absent_put_other m c j [] f = ap (λ (b : Bool). not b && true) (ne_eqb c j (λ e. f (sym e)))
absent_put_other m c j (k ∷ ks) f = go (eqb k m) (absent_put_other m c j ks f)
  where
    go : (b : Bool) → absent itself j (put_before itself m c ks) ≡ absent itself j ks → absent itself j (cond b (c ∷ k ∷ ks) (k ∷ put_before itself m c ks)) ≡ (not (eqb k j) && absent itself j ks)
    go true i = ap (λ (b : Bool). not b && (not (eqb k j) && absent itself j ks)) (ne_eqb c j (λ e. f (sym e)))
    go false i = ap (λ (b : Bool). not (eqb k j) && b) i

pub apart_enter : (k m : ℕ) (ns : List ℕ) → absent itself k ns ≡ true → apart itself ns ≡ true → apart itself (put_before itself m k ns) ≡ true
unfolding apart put_before absent
apart_enter k m [] g h = refl
apart_enter k m (j ∷ js) g h =
    let p = apart_parts itself j js h in
    let q = absent_parts itself k j js g in
    go (eqb j m) (absent_put_other m k j js q.0 ∙ p.0) (apart_enter k m js q.1 p.1)
  where
    go : (b : Bool) → absent itself j (put_before itself m k js) ≡ true → apart itself (put_before itself m k js) ≡ true → apart itself (cond b (k ∷ j ∷ js) (j ∷ put_before itself m k js)) ≡ true
    go true i r = and_from _ _ g h
    go false i r = and_from _ _ i r

pub length_enter : (k m : ℕ) (ns : List ℕ) → length (put_before itself m k ns) ≡ length ns + 1
unfolding put_before
length_enter k m [] = refl
length_enter k m (j ∷ js) = go (eqb j m) (length_enter k m js)
  where
    go : (b : Bool) → length (put_before itself m k js) ≡ length js + 1 → length (cond b (k ∷ j ∷ js) (j ∷ put_before itself m k js)) ≡ suc (length js) + 1
    go true i = omega arith
    go false i = omega arith

pub below_out : (k n : ℕ) (ns : List ℕ) → below k ns ≡ true → below k (without itself n ns) ≡ true
unfolding below without
below_out k n [] h = refl
below_out k n (j ∷ js) h =
    let p = and_parts (ltb j k) (below k js) h in
    go (eqb j n) p.0 p.1 (below_out k n js p.1)
  where
    go : (b : Bool) → ltb j k ≡ true → below k js ≡ true → below k (without itself n js) ≡ true → below k (cond b js (j ∷ without itself n js)) ≡ true
    go true q r i = r
    go false q r i = and_from _ _ q i

absent_out : (k n : ℕ) (ns : List ℕ) → absent itself k ns ≡ true → absent itself k (without itself n ns) ≡ true
unfolding absent without
absent_out k n [] h = refl
absent_out k n (j ∷ js) h =
    let p = and_parts (not (eqb j k)) (absent itself k js) h in
    go (eqb j n) p.0 p.1 (absent_out k n js p.1)
  where
    go : (b : Bool) → not (eqb j k) ≡ true → absent itself k js ≡ true → absent itself k (without itself n js) ≡ true → absent itself k (cond b js (j ∷ without itself n js)) ≡ true
    go true q r i = r
    go false q r i = and_from _ _ q i

pub apart_out : (n : ℕ) (ns : List ℕ) → apart itself ns ≡ true → apart itself (without itself n ns) ≡ true
unfolding apart without
apart_out n [] h = refl
apart_out n (j ∷ js) h =
    let p = apart_parts itself j js h in
    go (eqb j n) p.1 (absent_out j n js p.0) (apart_out n js p.1)
  where
    go : (b : Bool) → apart itself js ≡ true → absent itself j (without itself n js) ≡ true → apart itself (without itself n js) ≡ true → apart itself (cond b js (j ∷ without itself n js)) ≡ true
    go true q i r = q
    go false q i r = and_from _ _ i r

pub length_out : (n : ℕ) (ns : List ℕ) → length (without itself n ns) ≤ length ns
unfolding without
length_out n [] = omega arith
length_out n (j ∷ js) = go (eqb j n) (length_out n js)
  where
    go : (b : Bool) → length (without itself n js) ≤ length js → length (cond b js (j ∷ without itself n js)) ≤ suc (length js)
    go true i = omega arith
    go false i = omega arith

pub absent_out_same : (n : ℕ) (ns : List ℕ) → apart itself ns ≡ true → absent itself n (without itself n ns) ≡ true
unfolding absent without
absent_out_same n [] h = refl
absent_out_same n (k ∷ ks) h =
    let p = apart_parts itself k ks h in
    ⊎_elim (λ e. ap (absent itself n) (cond-true (eqb k n) ks (k ∷ without itself n ks) e) ∙ ap (λ (j : ℕ). absent itself j ks) (sym (eqb-true k n e)) ∙ p.0)
    (λ e. ap (absent itself n) (cond-false (eqb k n) ks (k ∷ without itself n ks) e) ∙ ap₂ (λ (b x : Bool). not b && x) e (absent_out_same n ks p.1))
    (cases_Bool (eqb k n))

pub absent_out_other : (n j : ℕ) (ns : List ℕ) → (j ≡ n → ⊥) → absent itself j (without itself n ns) ≡ absent itself j ns
unfolding absent without
absent_out_other n j [] f = refl
absent_out_other n j (k ∷ ks) f =
    ⊎_elim (λ e. ap (absent itself j) (cond-true (eqb k n) ks (k ∷ without itself n ks) e) ∙ ap (λ (b : Bool). not b && absent itself j ks) (sym (ne_eqb k j (λ g. f (sym g ∙ eqb-true k n e)))))
    (λ e. ap (absent itself j) (cond-false (eqb k n) ks (k ∷ without itself n ks) e) ∙ ap (λ (x : Bool). not (eqb k j) && x) (absent_out_other n j ks f))
    (cases_Bool (eqb k n))
