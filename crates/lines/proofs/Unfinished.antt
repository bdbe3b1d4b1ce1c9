-- A task stands in the line while it is not finished.
use Rattle.std.proofs.Common.{◌≡◌, ℕ, ◌<◌, ◌≤◌, Bool, true, false, cond, ◌⊎◌, List, length, set, sym, refl, ap, ◌∙◌, inl, inr}
use Rattle.std.proofs.lemmas.List.{length-set, get_or-set_same, get_or-set_other, set_past}
use Rattle.std.proofs.lemmas.Bool.{cases_eq, cases_lt, both_ways}
use Rattle.lines.specs.declared.state.State.{State}
use Rattle.lines.specs.declared.state.State.TheVariants.{Finished, Waiting, Out, Stuck}
use Rattle.lines.specs.States.{is_finished, is_out}
use Rattle.lines.specs.Rows.{itself, put_before, without, absent, apart}
use Rattle.lines.specs.Stored.{state_at, marked}
use Rattle.lines.proofs.Numbers.{absent_put_same, absent_put_other, absent_out_same, absent_out_other}

abbrev pub Unfinished : List State → List ℕ → Type 0
Unfinished ss ns = (n : ℕ) → absent itself n ns ≡ is_finished (state_at ss n)

-- at task n and at the others
by_task : (ss : List State) (ns' : List ℕ) (n : ℕ) (s : State) → n < length ss → absent itself n ns' ≡ is_finished s → ((k : ℕ) → (k ≡ n → ⊥) → absent itself k ns' ≡ is_finished (state_at ss k)) → Unfinished (set ss n s) ns'
by_task ss ns' n s lt own other k = go (cases_eq k n)
  where
    go : (k ≡ n) ⊎ (k ≡ n → ⊥) → absent itself k ns' ≡ is_finished (state_at (set ss n s) k)
    go (inl e) = ap (λ (j : ℕ). absent itself j ns') e ∙ own ∙ ap is_finished (sym (get_or-set_same ss n s Finished lt)) ∙ ap (λ (j : ℕ). is_finished (state_at (set ss n s) j)) (sym e)
    go (inr f) = other k f ∙ ap is_finished (sym (get_or-set_other ss n k s Finished f))

pub length_marked : (ss : List State) (n : ℕ) (s : State) → length (marked ss n s) ≡ length ss
length_marked ss n s = go (is_finished (state_at ss n))
  where
    go : (b : Bool) → length (cond b ss (set ss n s)) ≡ length ss
    go true = refl
    go false = length-set ss n s

-- a task that is marked is as finished as it was
pub finished_marked : (ss : List State) (n : ℕ) (s : State) → is_finished s ≡ false → (k : ℕ) → is_finished (state_at (marked ss n s) k) ≡ is_finished (state_at ss k)
finished_marked ss n s e k = go (is_finished (state_at ss n)) refl (cases_eq k n)
  where
    go : (b : Bool) → is_finished (state_at ss n) ≡ b → (k ≡ n) ⊎ (k ≡ n → ⊥) → is_finished (state_at (cond b ss (set ss n s)) k) ≡ is_finished (state_at ss k)
    go true was q = refl
    go false was (inr f) = ap is_finished (get_or-set_other ss n k s Finished f)
    go false was (inl q) = ap (λ (j : ℕ). is_finished (state_at (set ss n s) j)) q ∙ here (cases_lt n (length ss)) ∙ ap (λ (j : ℕ). is_finished (state_at ss j)) (sym q)
      where
        here : (n < length ss) ⊎ (length ss ≤ n) → is_finished (state_at (set ss n s) n) ≡ is_finished (state_at ss n)
        here (inl l) = ap is_finished (get_or-set_same ss n s Finished l) ∙ e ∙ sym was
        here (inr g) = ap (λ (l : List State). is_finished (state_at l n)) (set_past ss n s g)

pub unfinished_marked : (ss : List State) (ns : List ℕ) → Unfinished ss ns → (n : ℕ) (s : State) → is_finished s ≡ false → Unfinished (marked ss n s) ns
unfinished_marked ss ns h n s e k = h k ∙ sym (finished_marked ss n s e k)

module _ (ss : List State) (ns : List ℕ) (h : Unfinished ss ns) (n : ℕ) (lt : n < length ss) where
  pub unfinished_entered : (m : ℕ) (s : State) → is_finished s ≡ false → Unfinished (set ss n s) (put_before itself m n ns)
  unfinished_entered m s e = by_task ss (put_before itself m n ns) n s lt (absent_put_same m n ns ∙ sym e) (λ k f. absent_put_other m n k ns f ∙ h k)

  pub unfinished_left : (s : State) → is_finished s ≡ true → apart itself ns ≡ true → Unfinished (set ss n s) (without itself n ns)
  unfinished_left s e once = by_task ss (without itself n ns) n s lt (absent_out_same n ns once ∙ sym e) (λ k f. absent_out_other n k ns f ∙ h k)

-- A state after a mark.

pub finished_in : (s : State) → is_finished s ≡ true → is_out s ≡ false
finished_in Finished e = refl
finished_in Waiting e = refl
finished_in Out e = absurd (both_ways false refl e)
finished_in (Stuck f) e = refl

-- the task that is marked is finished or in that state, and the others are as they were
pub state_marked : (ss : List State) (n : ℕ) (s : State) (k : ℕ) → is_out (state_at (marked ss n s) k) ≡ true → (is_out (state_at ss k) ≡ true) ⊎ ((k ≡ n) × (is_out s ≡ true))
state_marked ss n s k e = go (is_finished (state_at ss n)) (cases_eq k n) (cases_lt n (length ss)) e
  where
    go : (b : Bool) → (k ≡ n) ⊎ (k ≡ n → ⊥) → (n < length ss) ⊎ (length ss ≤ n) → is_out (state_at (cond b ss (set ss n s)) k) ≡ true → (is_out (state_at ss k) ≡ true) ⊎ ((k ≡ n) × (is_out s ≡ true))
    go true q l e = inl e
    go false (inr f) l e = inl (ap is_out (sym (get_or-set_other ss n k s Finished f)) ∙ e)
    go false (inl q) (inl l) e = inr (q, ap is_out (sym (get_or-set_same ss n s Finished l)) ∙ ap (λ (j : ℕ). is_out (state_at (set ss n s) j)) (sym q) ∙ e)
    go false (inl q) (inr g) e = inl (ap (λ (l : List State). is_out (state_at l k)) (sym (set_past ss n s g)) ∙ e)

pub not_out_marked : (ss : List State) (n : ℕ) (s : State) → n < length ss → is_out s ≡ false → is_out (state_at (marked ss n s) n) ≡ false
not_out_marked ss n s lt e = go (is_finished (state_at ss n)) refl
  where
    go : (b : Bool) → is_finished (state_at ss n) ≡ b → is_out (state_at (cond b ss (set ss n s)) n) ≡ false
    go true was = finished_in (state_at ss n) was
    go false was = ap is_out (get_or-set_same ss n s Finished lt) ∙ e
