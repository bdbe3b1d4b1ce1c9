-- What every line keeps to, whatever is done to it.
use Rattle.std.proofs.Common.{◌≡◌, ℕ, ◌+◌, ◌<◌, true, false, ◌⊎◌, List, [], ◌∷◌, length, get_or, set, replicate, vec_items, sym, refl, ap, ◌∙◌, subst, inl, inr, ⊎_elim, arith, lit<}
use Rattle.std.proofs.lemmas.List.{length-set, get_or-set_same, get_or-set_other, get_or_past, get_or-replicate, length-replicate}
use Rattle.std.proofs.lemmas.Bool.{cases_eq, cases_lt, both_ways}
use Rattle.working.specs.declared.declared.Declared.{Declared}
use Rattle.working.specs.Tasks.{nothing, Task}
use Rattle.runs.specs.declared.entry.Entry.{Entry}
use Rattle.runs.specs.Lines.{waiting, member}
use Rattle.runs.specs.Queues.{declares}
use Rattle.lines.specs.declared.line.Line.{Line}
use Rattle.lines.specs.declared.state.State.{State}
use Rattle.lines.specs.declared.state.State.TheVariants.{Finished, Waiting}
use Rattle.lines.specs.States.{is_finished, is_out}
use Rattle.lines.specs.Rows.{itself, put_before, without, absent, apart, below}
use Rattle.lines.specs.Stored.{queues_of, declared_in, declared_by, state_at, marked, member_at, members_at}
use Rattle.lines.specs.Same.{same_declarations}
use Rattle.lines.specs.Clears.{clear_in}
use Rattle.lines.specs.Changes.{entered, redeclared, left, Narrower}
use Rattle.lines.proofs.Sames.{equal_declarations, same_declarations_from}
use Rattle.lines.proofs.Numbers.{below_absent, below_enter, apart_enter, below_out, apart_out}
use Rattle.lines.proofs.Declareds.{declared_at, declared_by_is, declared_by_same, narrower_declares, entered_own, entered_other, left_other, redeclared_other}
use Rattle.lines.proofs.Entries.{entries}
use Rattle.lines.proofs.Queued.{Queued, AllQueued, Told, queued_entered, queued_redeclared, queued_left, declares_own, declares_new, stored_queued}
use Rattle.lines.proofs.Clearer.{entered_clear, redeclared_clear, left_clear}
use Rattle.lines.proofs.Unfinished.{Unfinished, length_marked, finished_marked, state_marked, unfinished_marked, unfinished_entered, unfinished_left}

pub record Holds (ns : List ℕ) (qs : List (List Entry)) (ss : List State) (made : ℕ) : Type 0 where
  pub known : below made ns ≡ true
  pub once : apart itself ns ≡ true
  pub left : Unfinished ss ns
  pub queued : AllQueued qs ns
  pub turns : (n : ℕ) → is_out (state_at ss n) ≡ true → clear_in qs n ≡ true
  pub numbers : length ss ≡ 256

pub holds : (l : Line) → Holds (vec_items l.order) (queues_of (vec_items l.queues)) l.states l.made
holds l = record {
  known = l.known;
  once = l.once;
  left = l.unfinished;
  queued = stored_queued (queues_of (vec_items l.queues)) l.states (vec_items l.order) l.stored;
  turns = l.turns;
  numbers = l.numbers;
}

-- each task in the line declares what the queues hold of it
abbrev pub Telling : List (List Entry) → List State → (ℕ → Task) → Type 0
Telling qs ss t = (n : ℕ) → is_finished (state_at ss n) ≡ false → same_declarations (t n).declared (declared_by qs n) ≡ true

telling_from : (qs : List (List Entry)) (ss : List State) (t : ℕ → Task) → ((n : ℕ) → is_finished (state_at ss n) ≡ false → (t n).declared ≡ declared_by qs n) → Telling qs ss t
telling_from qs ss t h n e = same_declarations_from (t n).declared (declared_by qs n) (h n e)

telling_equal : (qs : List (List Entry)) (ss : List State) (t : ℕ → Task) → Telling qs ss t → (n : ℕ) → is_finished (state_at ss n) ≡ false → (t n).declared ≡ declared_by qs n
telling_equal qs ss t h n e = equal_declarations (t n).declared (declared_by qs n) (h n e)

pub told : {ns : List ℕ} {qs : List (List Entry)} {ss : List State} {made : ℕ} → Holds ns qs ss made → (t : ℕ → Task) → Telling qs ss t → Told qs t ns
told {ns} {qs} {ss} h t tells n here = telling_equal qs ss t tells n (sym (h.left n) ∙ here)

-- A task is marked.

pub holds_marked : {ns : List ℕ} {qs : List (List Entry)} {ss : List State} {made : ℕ} → Holds ns qs ss made → (n : ℕ) (s : State) → is_finished s ≡ false → (is_out s ≡ true → clear_in qs n ≡ true) → Holds ns qs (marked ss n s) made
holds_marked {ns} {qs} {ss} h n s e clear = record {
  known = h.known;
  once = h.once;
  left = unfinished_marked ss ns h.left n s e;
  queued = h.queued;
  turns = λ k out. ⊎_elim (h.turns k) (λ q. ap (clear_in qs) q.0 ∙ clear q.1) (state_marked ss n s k out);
  numbers = length_marked ss n s ∙ h.numbers;
}

pub telling_marked : (qs : List (List Entry)) (ss : List State) (t u : ℕ → Task) (n : ℕ) (s : State) → is_finished s ≡ false → ((k : ℕ) → (k ≡ n → ⊥) → u k ≡ t k) → (u n).declared ≡ (t n).declared → Telling qs ss t → Telling qs (marked ss n s) u
telling_marked qs ss t u n s e but same tells =
    telling_from qs (marked ss n s) u (λ k live. go k (cases_eq k n) ∙ telling_equal qs ss t tells k (sym (finished_marked ss n s e k) ∙ live))
  where
    go : (k : ℕ) → (k ≡ n) ⊎ (k ≡ n → ⊥) → (u k).declared ≡ (t k).declared
    go k (inl p) = ap (λ (j : ℕ). (u j).declared) p ∙ same ∙ ap (λ (j : ℕ). (t j).declared) (sym p)
    go k (inr f) = ap (λ (x : Task). x.declared) (but k f)

-- A task declares otherwise.

-- what is declared now was declared before
declared_before : (qs : List (List Entry)) (n : ℕ) (ds : List Declared) → Narrower (declared_by qs n) ds → (o : ℕ) → declares (get_or ds o nothing) ≡ true → declares (declared_in (get_or qs o []) n) ≡ true
declared_before qs n ds h o y = ap declares (sym (declared_at qs n o)) ∙ narrower_declares (declared_by qs n) ds h o y

module _ {ns : List ℕ} {qs : List (List Entry)} {ss : List State} {made : ℕ} (h : Holds ns qs ss made) (n : ℕ) (ds : List Declared) (narrower : Narrower (declared_by qs n) ds) (qs' : List (List Entry)) (long : length qs' ≡ length qs) (new : (o : ℕ) → get_or qs' o [] ≡ redeclared n (get_or ds o nothing) (get_or qs o [])) where
  pub holds_redeclared : is_out (state_at ss n) ≡ false → Holds ns qs' ss made
  holds_redeclared in_line = record {
    known = h.known;
    once = h.once;
    left = h.left;
    queued = λ o. subst (λ (es : List Entry). Queued es ns) (sym (new o)) (queued_redeclared (get_or qs o []) ns (h.queued o) n (get_or ds o nothing) h.once (declared_before qs n ds narrower o));
    turns = λ k out. redeclared_clear qs qs' long k n ds (λ e. both_ways (is_out (state_at ss k)) (ap (λ (j : ℕ). is_out (state_at ss j)) (sym e) ∙ in_line) out) narrower new (h.turns k out);
    numbers = h.numbers;
  }

  pub telling_redeclared : (t u : ℕ → Task) → length ds ≡ length qs → ((k : ℕ) → (k ≡ n → ⊥) → u k ≡ t k) → (u n).declared ≡ ds → Telling qs ss t → Telling qs' ss u
  telling_redeclared t u wide but is tells = telling_from qs' ss u (λ k live. go k live (cases_eq k n))
    where
      own : declared_by qs' n ≡ ds
      own = declared_by_is qs' n ds (wide ∙ sym long) (λ o. ap (λ (es : List Entry). declared_in es n) (new o) ∙ declares_new (get_or qs o []) ns (h.queued o) n (get_or ds o nothing) h.once (declared_before qs n ds narrower o))

      other : (k : ℕ) → (k ≡ n → ⊥) → declared_by qs' k ≡ declared_by qs k
      other k f = declared_by_same qs qs' k long (λ o. ap (λ (es : List Entry). declared_in es k) (new o) ∙ redeclared_other n (get_or ds o nothing) (get_or qs o []) k f)

      go : (k : ℕ) → is_finished (state_at ss k) ≡ false → (k ≡ n) ⊎ (k ≡ n → ⊥) → (u k).declared ≡ declared_by qs' k
      go k live (inl p) = ap (λ (j : ℕ). (u j).declared) p ∙ is ∙ sym own ∙ ap (declared_by qs') (sym p)
      go k live (inr f) = ap (λ (x : Task). x.declared) (but k f) ∙ telling_equal qs ss t tells k live ∙ sym (other k f)

-- A child enters.

module _ {ns : List ℕ} {qs : List (List Entry)} {ss : List State} {made : ℕ} (h : Holds ns qs ss made) (m : ℕ) (few : made < 256) (ds : List Declared) (narrower : Narrower (declared_by qs m) ds) (qs' : List (List Entry)) (long : length qs' ≡ length qs) (new : (o : ℕ) → get_or qs' o [] ≡ entered m made (get_or ds o nothing) (get_or qs o [])) where
  fresh : absent itself made ns ≡ true
  fresh = below_absent made ns h.known

  out_before : (k : ℕ) → is_out (state_at (set ss made Waiting) k) ≡ true → (k ≡ made → ⊥) × (is_out (state_at ss k) ≡ true)
  out_before k out = go (cases_eq k made)
    where
      own : is_out (state_at (set ss made Waiting) made) ≡ false
      own = ap is_out (get_or-set_same ss made Waiting Finished (omega (arith, h.numbers)))

      go : (k ≡ made) ⊎ (k ≡ made → ⊥) → (k ≡ made → ⊥) × (is_out (state_at ss k) ≡ true)
      go (inl e) = absurd (both_ways (is_out (state_at (set ss made Waiting) k)) (ap (λ (j : ℕ). is_out (state_at (set ss made Waiting) j)) e ∙ own) out)
      go (inr f) = (f, ap is_out (sym (get_or-set_other ss made k Waiting Finished f)) ∙ out)

  pub holds_entered : is_out (state_at ss m) ≡ false → Holds (put_before itself m made ns) qs' (set ss made Waiting) (made + 1)
  holds_entered in_line = record {
    known = below_enter made m ns h.known;
    once = apart_enter made m ns fresh h.once;
    left = unfinished_entered ss ns h.left made (omega (arith, h.numbers)) m Waiting refl;
    queued = λ o. subst (λ (es : List Entry). Queued es (put_before itself m made ns)) (sym (new o)) (queued_entered (get_or qs o []) ns (h.queued o) m made (get_or ds o nothing) fresh (λ _. declared_before qs m ds narrower o));
    turns = λ k out. let p = out_before k out in entered_clear qs qs' long k m made ds (λ e. p.0 (sym e)) (λ e. both_ways (is_out (state_at ss k)) (ap (λ (j : ℕ). is_out (state_at ss j)) (sym e) ∙ in_line) p.1) narrower new (h.turns k p.1);
    numbers = length-set ss made Waiting ∙ h.numbers;
  }

  pub telling_entered : (t u : ℕ → Task) → length ds ≡ length qs → ((k : ℕ) → (k ≡ made → ⊥) → (u k).declared ≡ (t k).declared) → (u made).declared ≡ ds → Telling qs ss t → Telling qs' (set ss made Waiting) u
  telling_entered t u wide but is tells = telling_from qs' (set ss made Waiting) u (λ k live. go k live (cases_eq k made))
    where
      own : declared_by qs' made ≡ ds
      own = declared_by_is qs' made ds (wide ∙ sym long) (λ o. ap (λ (es : List Entry). declared_in es made) (new o) ∙ declares_own (get_or qs o []) ns (h.queued o) m made (get_or ds o nothing) fresh)

      other : (k : ℕ) → (k ≡ made → ⊥) → declared_by qs' k ≡ declared_by qs k
      other k f = declared_by_same qs qs' k long (λ o. ap (λ (es : List Entry). declared_in es k) (new o) ∙ entered_other m made (get_or ds o nothing) (get_or qs o []) k f)

      go : (k : ℕ) → is_finished (state_at (set ss made Waiting) k) ≡ false → (k ≡ made) ⊎ (k ≡ made → ⊥) → (u k).declared ≡ declared_by qs' k
      go k live (inl p) = ap (λ (j : ℕ). (u j).declared) p ∙ is ∙ sym own ∙ ap (declared_by qs') (sym p)
      go k live (inr f) = but k f ∙ telling_equal qs ss t tells k (ap is_finished (sym (get_or-set_other ss made k Waiting Finished f)) ∙ live) ∙ sym (other k f)

-- A task leaves.

module _ {ns : List ℕ} {qs : List (List Entry)} {ss : List State} {made : ℕ} (h : Holds ns qs ss made) (n : ℕ) (lt : n < 256) (qs' : List (List Entry)) (long : length qs' ≡ length qs) (new : (o : ℕ) → get_or qs' o [] ≡ left n (get_or qs o [])) where
  out_still : (k : ℕ) → is_out (state_at (set ss n Finished) k) ≡ true → is_out (state_at ss k) ≡ true
  out_still k out = go (cases_eq k n)
    where
      own : is_out (state_at (set ss n Finished) n) ≡ false
      own = ap is_out (get_or-set_same ss n Finished Finished (omega (arith, h.numbers)))

      go : (k ≡ n) ⊎ (k ≡ n → ⊥) → is_out (state_at ss k) ≡ true
      go (inl e) = absurd (both_ways (is_out (state_at (set ss n Finished) k)) (ap (λ (j : ℕ). is_out (state_at (set ss n Finished) j)) e ∙ own) out)
      go (inr f) = ap is_out (sym (get_or-set_other ss n k Finished Finished f)) ∙ out

  pub holds_finished : Holds (without itself n ns) qs' (set ss n Finished) made
  holds_finished = record {
    known = below_out made n ns h.known;
    once = apart_out n ns h.once;
    left = unfinished_left ss ns h.left n (omega (arith, h.numbers)) Finished refl h.once;
    queued = λ o. subst (λ (es : List Entry). Queued es (without itself n ns)) (sym (new o)) (queued_left (get_or qs o []) ns (h.queued o) n h.once);
    turns = λ k out. left_clear qs qs' long k n new (h.turns k (out_still k out));
    numbers = length-set ss n Finished ∙ h.numbers;
  }

  pub telling_finished : (t u : ℕ → Task) → ((k : ℕ) → (k ≡ n → ⊥) → u k ≡ t k) → Telling qs ss t → Telling qs' (set ss n Finished) u
  telling_finished t u but tells = telling_from qs' (set ss n Finished) u (λ k live. go k live (cases_eq k n))
    where
      other : (k : ℕ) → (k ≡ n → ⊥) → declared_by qs' k ≡ declared_by qs k
      other k f = declared_by_same qs qs' k long (λ o. ap (λ (es : List Entry). declared_in es k) (new o) ∙ left_other n (get_or qs o []) k f)

      go : (k : ℕ) → is_finished (state_at (set ss n Finished) k) ≡ false → (k ≡ n) ⊎ (k ≡ n → ⊥) → (u k).declared ≡ declared_by qs' k
      go k live (inl p) =
          let gone : is_finished (state_at (set ss n Finished) k) ≡ true = ap (λ (j : ℕ). is_finished (state_at (set ss n Finished) j)) p ∙ ap is_finished (get_or-set_same ss n Finished Finished (omega (arith, h.numbers))) in
          absurd (both_ways (is_finished (state_at (set ss n Finished) k)) live gone)
      go k live (inr f) = ap (λ (x : Task). x.declared) (but k f) ∙ telling_equal qs ss t tells k (ap is_finished (sym (get_or-set_other ss n k Finished Finished f)) ∙ live) ∙ sym (other k f)

-- Main alone.

abbrev pub first_states : List State
first_states = set (replicate 256 Finished) 0 Waiting

nobody : (n : ℕ) → state_at (replicate 256 Finished) n ≡ Finished
nobody n = ⊎_elim (λ l. get_or-replicate 256 n Finished Finished l) (λ g. get_or_past (replicate 256 Finished) n Finished (rw length-replicate g)) (cases_lt n 256)

other_than_main : (k : ℕ) → (k ≡ 0 → ⊥) → state_at first_states k ≡ Finished
other_than_main k f = get_or-set_other (replicate 256 Finished) 0 k Waiting Finished f ∙ nobody k

pub line_new : (t : ℕ → Task) → members_at first_states t (0 ∷ []) ≡ member 0 waiting (t 0) ∷ []
unfolding members_at member_at
line_new t = refl

pub holds_new : (ds : List Declared) (qs qs' : List (List Entry)) → ((o : ℕ) → get_or qs o [] ≡ []) → ((o : ℕ) → get_or qs' o [] ≡ entered 0 0 (get_or ds o nothing) (get_or qs o [])) → Holds (0 ∷ []) qs' first_states 1
unfolding below apart absent put_before entries
holds_new ds qs qs' empty new = record {
  known = refl;
  once = refl;
  left = unfinished_entered (replicate 256 Finished) [] (λ n. ap is_finished (sym (nobody n))) 0 (lit< tt) 0 Waiting refl;
  queued = λ o.
      subst (λ (es : List Entry). Queued es (0 ∷ [])) (sym (new o ∙ ap (entered 0 0 (get_or ds o nothing)) (empty o)))
      (queued_entered [] [] refl 0 0 (get_or ds o nothing) refl (λ a _. absurd (both_ways true a refl)));
  turns = λ k out. absurd (both_ways (is_out (state_at first_states k)) (none_out k (cases_eq k 0)) out);
  numbers = length-set (replicate 256 Finished) 0 Waiting ∙ length-replicate 256 Finished;
}
  where
    none_out : (k : ℕ) → (k ≡ 0) ⊎ (k ≡ 0 → ⊥) → is_out (state_at first_states k) ≡ false
    none_out k (inl e) = ap (λ (j : ℕ). is_out (state_at first_states j)) e
    none_out k (inr f) = ap is_out (other_than_main k f)

pub telling_new : (ds : List Declared) (qs qs' : List (List Entry)) → length ds ≡ length qs' → ((o : ℕ) → get_or qs o [] ≡ []) → ((o : ℕ) → get_or qs' o [] ≡ entered 0 0 (get_or ds o nothing) (get_or qs o [])) → (t : ℕ → Task) → (t 0).declared ≡ ds → Telling qs' first_states t
unfolding absent
telling_new ds qs qs' wide empty new t is = telling_from qs' first_states t (λ k live. go k live (cases_eq k 0))
  where
    own : declared_by qs' 0 ≡ ds
    own = declared_by_is qs' 0 ds wide (λ o. ap (λ (es : List Entry). declared_in es 0) (new o ∙ ap (entered 0 0 (get_or ds o nothing)) (empty o)) ∙ entered_own 0 0 (get_or ds o nothing) [] refl)

    go : (k : ℕ) → is_finished (state_at first_states k) ≡ false → (k ≡ 0) ⊎ (k ≡ 0 → ⊥) → (t k).declared ≡ declared_by qs' k
    go k live (inl e) = ap (λ (j : ℕ). (t j).declared) e ∙ is ∙ sym own ∙ ap (declared_by qs') (sym e)
    go k live (inr f) = absurd (both_ways (is_finished (state_at first_states k)) live (ap is_finished (other_than_main k f)))
