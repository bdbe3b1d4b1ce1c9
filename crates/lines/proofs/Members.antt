-- The model's line, as a map over the task numbers in line order.
use Rattle.std.proofs.Common.{◌≡◌, ℕ, ◌<◌, Bool, true, false, cond, not, ◌&&◌, eqb, List, [], ◌∷◌, ◌++◌, map, length, set, Some, None, sym, refl, ap, ◌∙◌, ap₂, ⊎_elim}
use Rattle.std.proofs.lemmas.List.{length-set, get_or-set_same, get_or-set_other}
use Rattle.std.proofs.lemmas.Bool.{cond-true, cond-false, eqb-true, eqb-false, ne_eqb, cases_Bool, both_ways}
use Rattle.working.specs.Tasks.{Task}
use Rattle.runs.specs.Lines.{waiting, Member, member, find, replace}
use Rattle.lines.specs.declared.state.State.{State}
use Rattle.lines.specs.declared.state.State.TheVariants.{Finished, Waiting}
use Rattle.lines.specs.States.{is_finished, status_of}
use Rattle.lines.specs.Rows.{itself, put_before, without, absent, apart}
use Rattle.lines.specs.Stored.{state_at, marked, member_at, members_at}
use Rattle.lines.proofs.Numbers.{absent_parts, apart_parts, absent_out_same}

module _ (g : ℕ → Member) (numbered : (n : ℕ) → (g n).number ≡ n) (n : ℕ) where
  met : (m : ℕ) → eqb (g m).number n ≡ eqb m n
  met m = ap (λ (k : ℕ). eqb k n) (numbered m)

  pub find_there : (ns : List ℕ) → absent itself n ns ≡ false → find n (map g ns) ≡ Some (g n)
  unfolding find absent
  find_there [] h = absurd (both_ways true h refl)
  find_there (m ∷ ms) h =
      ⊎_elim (λ e. cond-true (eqb (g m).number n) (Some (g m)) (find n (map g ms)) (met m ∙ e) ∙ ap (λ (k : ℕ). Some (g k)) (eqb-true m n e))
      (λ e. cond-false (eqb (g m).number n) (Some (g m)) (find n (map g ms)) (met m ∙ e) ∙ find_there ms (ap (λ (b : Bool). not b && absent itself n ms) (sym e) ∙ h))
      (cases_Bool (eqb m n))

  pub find_none : (ns : List ℕ) → absent itself n ns ≡ true → find n (map g ns) ≡ None
  unfolding find
  find_none [] h = refl
  find_none (m ∷ ms) h =
      let p = absent_parts itself n m ms h in
      cond-false (eqb (g m).number n) (Some (g m)) (find n (map g ms)) (met m ∙ ne_eqb m n p.0) ∙ find_none ms p.1

  -- a task leaves
  replace_left : (ns : List ℕ) → replace n [] (map g ns) ≡ map g (without itself n ns)
  unfolding replace without
  replace_left [] = refl
  replace_left (m ∷ ms) =
      ⊎_elim (λ e. cond-true (eqb (g m).number n) (map g ms) (g m ∷ replace n [] (map g ms)) (met m ∙ e) ∙ ap (map g) (sym (cond-true (eqb m n) ms (m ∷ without itself n ms) e)))
      (λ e. cond-false (eqb (g m).number n) (map g ms) (g m ∷ replace n [] (map g ms)) (met m ∙ e) ∙ ap (λ (l : List Member). g m ∷ l) (replace_left ms) ∙ ap (map g) (sym (cond-false (eqb m n) ms (m ∷ without itself n ms) e)))
      (cases_Bool (eqb m n))

  replace_none : (new : List Member) (ns : List ℕ) → absent itself n ns ≡ true → replace n new (map g ns) ≡ map g ns
  unfolding replace
  replace_none new [] h = refl
  replace_none new (m ∷ ms) h =
      let p = absent_parts itself n m ms h in
      cond-false (eqb (g m).number n) (new ++ map g ms) (g m ∷ replace n new (map g ms)) (met m ∙ ne_eqb m n p.0) ∙ ap (λ (l : List Member). g m ∷ l) (replace_none new ms p.1)

  -- the task changes
  module _ (h : ℕ → Member) (other : (k : ℕ) → (k ≡ n → ⊥) → h k ≡ g k) where
    map_other : (ns : List ℕ) → absent itself n ns ≡ true → map g ns ≡ map h ns
    map_other [] a = refl
    map_other (m ∷ ms) a = let p = absent_parts itself n m ms a in ap₂ (λ (s : Member) (l : List Member). s ∷ l) (sym (other m p.0)) (map_other ms p.1)

    replace_changed : (ns : List ℕ) → apart itself ns ≡ true → replace n (h n ∷ []) (map g ns) ≡ map h ns
    unfolding replace
    replace_changed [] a = refl
    replace_changed (m ∷ ms) a =
        let p = apart_parts itself m ms a in
        ⊎_elim (λ e. cond-true (eqb (g m).number n) (h n ∷ map g ms) (g m ∷ replace n (h n ∷ []) (map g ms)) (met m ∙ e)
        ∙ ap₂ (λ (s : Member) (l : List Member). s ∷ l) (ap h (sym (eqb-true m n e))) (map_other ms (ap (λ (k : ℕ). absent itself k ms) (sym (eqb-true m n e)) ∙ p.0)))
        (λ e. cond-false (eqb (g m).number n) (h n ∷ map g ms) (g m ∷ replace n (h n ∷ []) (map g ms)) (met m ∙ e)
        ∙ ap₂ (λ (s : Member) (l : List Member). s ∷ l) (sym (other m (eqb-false m n e))) (replace_changed ms p.1))
        (cases_Bool (eqb m n))

  -- a child c enters before the task, and both may be new
  module _ (h : ℕ → Member) (c : ℕ) (other : (k : ℕ) → (k ≡ n → ⊥) → (k ≡ c → ⊥) → h k ≡ g k) where
    map_others : (ns : List ℕ) → absent itself n ns ≡ true → absent itself c ns ≡ true → map g ns ≡ map h ns
    map_others [] a b = refl
    map_others (m ∷ ms) a b =
        let p = absent_parts itself n m ms a in
        let q = absent_parts itself c m ms b in
        ap₂ (λ (s : Member) (l : List Member). s ∷ l) (sym (other m p.0 q.0)) (map_others ms p.1 q.1)

    replace_entered : (ns : List ℕ) → apart itself ns ≡ true → absent itself n ns ≡ false → absent itself c ns ≡ true → replace n (h c ∷ h n ∷ []) (map g ns) ≡ map h (put_before itself n c ns)
    unfolding replace put_before absent
    replace_entered [] a i b = absurd (both_ways true i refl)
    replace_entered (m ∷ ms) a i b =
        let p = apart_parts itself m ms a in
        let q = absent_parts itself c m ms b in
        ⊎_elim (λ e. cond-true (eqb (g m).number n) (h c ∷ h n ∷ map g ms) (g m ∷ replace n (h c ∷ h n ∷ []) (map g ms)) (met m ∙ e)
        ∙ ap₂ (λ (s : Member) (l : List Member). h c ∷ s ∷ l) (ap h (sym (eqb-true m n e))) (map_others ms (ap (λ (k : ℕ). absent itself k ms) (sym (eqb-true m n e)) ∙ p.0) q.1)
        ∙ ap (map h) (sym (cond-true (eqb m n) (c ∷ m ∷ ms) (m ∷ put_before itself n c ms) e)))
        (λ e. cond-false (eqb (g m).number n) (h c ∷ h n ∷ map g ms) (g m ∷ replace n (h c ∷ h n ∷ []) (map g ms)) (met m ∙ e)
        ∙ ap₂ (λ (s : Member) (l : List Member). s ∷ l) (sym (other m (eqb-false m n e) q.0)) (replace_entered ms p.1 (ap (λ (x : Bool). not x && absent itself n ms) (sym e) ∙ i) q.1)
        ∙ ap (map h) (sym (cond-false (eqb m n) (c ∷ m ∷ ms) (m ∷ put_before itself n c ms) e)))
        (cases_Bool (eqb m n))

-- The stored line.

pub number_at : (ss : List State) (t : ℕ → Task) (n : ℕ) → (member_at ss t n).number ≡ n
unfolding member_at member
number_at ss t n = refl

kept_at : (ss : List State) (t u : ℕ → Task) (n : ℕ) (s : State) (k : ℕ) → (k ≡ n → ⊥) → u k ≡ t k → member_at (set ss n s) u k ≡ member_at ss t k
unfolding member_at
kept_at ss t u n s k f e = ap₂ (λ (x : State) (y : Task). member k (status_of x) y) (get_or-set_other ss n k s Finished f) e

set_at : (ss : List State) (u : ℕ → Task) (n : ℕ) (s : State) → n < length ss → member_at (set ss n s) u n ≡ member n (status_of s) (u n)
unfolding member_at
set_at ss u n s lt = ap (λ (x : State). member n (status_of x) (u n)) (get_or-set_same ss n s Finished lt)

module _ (ss : List State) (t u : ℕ → Task) (ns : List ℕ) (once : apart itself ns ≡ true) (n : ℕ) where
  module _ (but : (k : ℕ) → (k ≡ n → ⊥) → u k ≡ t k) where
    members_set : (s : State) → n < length ss → members_at (set ss n s) u ns ≡ replace n (member n (status_of s) (u n) ∷ []) (members_at ss t ns)
    unfolding members_at
    members_set s lt =
        sym (replace_changed (member_at ss t) (number_at ss t) n (member_at (set ss n s) u) (λ k f. kept_at ss t u n s k f (but k f)) ns once)
        ∙ ap (λ (m : Member). replace n (m ∷ []) (map (member_at ss t) ns)) (set_at ss u n s lt)

    other_at : (k : ℕ) → (k ≡ n → ⊥) → member_at ss u k ≡ member_at ss t k
    unfolding member_at
    other_at k f = ap (λ (x : Task). member k (status_of (state_at ss k)) x) (but k f)

    -- a task that is not there
    members_gone : (new : List Member) → absent itself n ns ≡ true → members_at ss u ns ≡ replace n new (members_at ss t ns)
    unfolding members_at
    members_gone new a = sym (map_other (member_at ss t) (number_at ss t) n (member_at ss u) other_at ns a) ∙ sym (replace_none (member_at ss t) (number_at ss t) n new ns a)

    pub members_marked : (s : State) → n < length ss → absent itself n ns ≡ is_finished (state_at ss n) → members_at (marked ss n s) u ns ≡ replace n (member n (status_of s) (u n) ∷ []) (members_at ss t ns)
    members_marked s lt left = go (is_finished (state_at ss n)) left
      where
        go : (b : Bool) → absent itself n ns ≡ b → members_at (cond b ss (set ss n s)) u ns ≡ replace n (member n (status_of s) (u n) ∷ []) (members_at ss t ns)
        go true a = members_gone (member n (status_of s) (u n) ∷ []) a
        go false a = members_set s lt

    pub members_finished : (s : State) → members_at (set ss n s) u (without itself n ns) ≡ replace n [] (members_at ss t ns)
    unfolding members_at
    members_finished s =
        sym (map_other (member_at ss t) (number_at ss t) n (member_at (set ss n s) u) (λ k f. kept_at ss t u n s k f (but k f)) (without itself n ns) (absent_out_same n ns once))
        ∙ sym (replace_left (member_at ss t) (number_at ss t) n ns)

  pub members_entered : (c : ℕ) → ((k : ℕ) → (k ≡ n → ⊥) → (k ≡ c → ⊥) → u k ≡ t k) → (n ≡ c → ⊥) → absent itself n ns ≡ false → absent itself c ns ≡ true → n < length ss → c < length ss → (ss' : List State) → ss' ≡ set (set ss n Waiting) c Waiting
      → members_at ss' u (put_before itself n c ns) ≡ replace n (member c waiting (u c) ∷ member n waiting (u n) ∷ []) (members_at ss t ns)
  unfolding members_at
  members_entered c but differ there new in_n in_c ss' is =
      let tt : List State = set ss n Waiting in
      let long : c < length tt = rw length-set in_c in
      ap (λ (l : List State). map (member_at l u) (put_before itself n c ns)) is
      ∙ sym (replace_entered (member_at ss t) (number_at ss t) n (member_at (set tt c Waiting) u) c (λ k f g. kept_at tt u u c Waiting k g refl ∙ kept_at ss t u n Waiting k f (but k f g)) ns once there new)
      ∙ ap₂ (λ (a b : Member). replace n (a ∷ b ∷ []) (map (member_at ss t) ns)) (set_at tt u c Waiting long) (kept_at tt u u c Waiting n differ refl ∙ set_at ss u n Waiting in_n)
