-- A task's flag says that its immediate declarations are clear.
use Rattle.std.proofs.Common.{Option, ◌≡◌, ℕ, zero, suc, ◌<◌, ◌≤◌, Bool, true, false, cond, not, ◌&&◌, ◌||◌, eqb, List, [], ◌∷◌, map, length, get_or, filter, sym, refl, ap, ◌∙◌, ap₂, ⊎_elim, arith}
use Rattle.std.specs.Option.{option_map_or}
use Rattle.std.proofs.lemmas.Bool.{cond-true, cond-false, eqb-true, eqb-false, eq-eqb, ne_eqb, cases_Bool, or_parts, both_ways}
use Rattle.cards.specs.declared.lines.Access.TheVariants.{Rd, Wr, Cm}
use Rattle.cards.specs.declared.lines.Level.{Level}
use Rattle.cards.specs.declared.lines.Level.TheVariants.{Absent, Deferred, Immediate}
use Rattle.working.specs.declared.declared.Declared.{Declared}
use Rattle.working.specs.Tasks.{held, is_immediate, Task}
use Rattle.runs.specs.declared.entry.Entry.{Entry}
use Rattle.runs.specs.Lines.{out, is_out, is_stuck, Member, member}
use Rattle.runs.specs.Queues.{declares, queue, earlier}
use Rattle.runs.specs.Ready.{passes, clear, clear_for, each, ready, on_offer, offered}
use Rattle.runs.specs.Events.{can_take}
use Rattle.lines.specs.declared.clear.Clear.{Clear}
use Rattle.lines.specs.declared.state.State.{State}
use Rattle.lines.specs.declared.state.State.TheVariants.{Finished, Waiting, Out, Stuck}
use Rattle.lines.specs.States.{is_finished, is_waiting, status_of}
use Rattle.lines.specs.States.{is_out as is_out_state}
use Rattle.lines.specs.Rows.{itself, absent, apart, below}
use Rattle.lines.specs.Stored.{declared_in, state_at, member_at, members_at}
use Rattle.lines.specs.Clears.{at_first, past, lets, clear_from, clear_in}
use Rattle.lines.specs.Changes.{entry}
use Rattle.lines.specs.Offers.{offers}
use Rattle.lines.proofs.Numbers.{absent_parts, apart_parts, there_first, there_later, there_below}
use Rattle.lines.proofs.Entries.{entries}
use Rattle.lines.proofs.Declareds.{length_declared}
use Rattle.lines.proofs.Queued.{AllQueued, Told, on_told, queue_stored}
use Rattle.lines.proofs.Members.{number_at, find_there, find_none}
use Rattle.lines.proofs.Unfinished.{Unfinished}

-- the immediate declarations of d are clear, where c says so of what clear_from in front, and x, y and z of what comes then
abbrev three : Clear → Declared → Bool → Bool → Bool → Bool
three c d x y z = (not (is_immediate d.reads) || (c.reads && x)) && ((not (is_immediate d.writes) || (c.writes && y)) && (not (is_immediate d.commutes) || (c.commutes && z)))

and_true : (x : Bool) → (x && true) ≡ x
and_true true = refl
and_true false = refl

and_group : (x y z : Bool) → ((x && y) && z) ≡ (x && (y && z))
and_group true y z = refl
and_group false y z = refl

and_never : (x y : Bool) → false ≡ (x && (false && y))
and_never true y = refl
and_never false y = refl

three_same : (c : Clear) (d : Declared) → three c d true true true ≡ lets c d
three_same c d =
    ap (λ (b : Bool). (not (is_immediate d.reads) || b) && ((not (is_immediate d.writes) || (c.writes && true)) && (not (is_immediate d.commutes) || (c.commutes && true)))) (and_true c.reads)
    ∙ ap (λ (b : Bool). (not (is_immediate d.reads) || c.reads) && ((not (is_immediate d.writes) || b) && (not (is_immediate d.commutes) || (c.commutes && true)))) (and_true c.writes)
    ∙ ap (λ (b : Bool). (not (is_immediate d.reads) || c.reads) && ((not (is_immediate d.writes) || c.writes) && (not (is_immediate d.commutes) || b))) (and_true c.commutes)

three_past : (c : Clear) (e d : Declared) (x y z : Bool) → three (past c e) d x y z ≡ three c d (passes Rd e && x) (passes Wr e && y) (passes Cm e && z)
unfolding passes
three_past c e d x y z =
    ap (λ (b : Bool). (not (is_immediate d.reads) || b) && ((not (is_immediate d.writes) || false) && (not (is_immediate d.commutes) || ((c.commutes && passes Cm e) && z)))) (and_group c.reads (passes Rd e) x)
    ∙ ap (λ (b : Bool). (not (is_immediate d.reads) || (c.reads && (passes Rd e && x))) && ((not (is_immediate d.writes) || b) && (not (is_immediate d.commutes) || ((c.commutes && passes Cm e) && z)))) (and_never c.writes y)
    ∙ ap (λ (b : Bool). (not (is_immediate d.reads) || (c.reads && (passes Rd e && x))) && ((not (is_immediate d.writes) || (c.writes && (false && y))) && (not (is_immediate d.commutes) || b))) (and_group c.commutes (passes Cm e) z)

not_immediate : (l : Level) → held l ≡ false → is_immediate l ≡ false
not_immediate Absent e = refl
not_immediate Deferred e = refl
not_immediate Immediate e = cc

three_none : (c : Clear) (d : Declared) (x y z : Bool) → declares d ≡ false → true ≡ three c d x y z
unfolding declares
three_none c d x y z e =
    let p = or_parts (held d.reads) (held d.writes || held d.commutes) e in
    let q = or_parts (held d.writes) (held d.commutes) p.1 in
    ap (λ (b : Bool). (not b || (c.reads && x)) && (true && true)) (sym (not_immediate d.reads p.0))
    ∙ ap (λ (b : Bool). (not (is_immediate d.reads) || (c.reads && x)) && ((not b || (c.writes && y)) && true)) (sym (not_immediate d.writes q.0))
    ∙ ap (λ (b : Bool). (not (is_immediate d.reads) || (c.reads && x)) && ((not (is_immediate d.writes) || (c.writes && y)) && (not b || (c.commutes && z)))) (sym (not_immediate d.commutes q.1))

module _ (f : ℕ → Declared) (n : ℕ) where
  clear_none : (c : Clear) (ns : List ℕ) → absent itself n ns ≡ true → clear_from n c (entries f ns) ≡ true
  unfolding clear_from entries
  clear_none c [] h = refl
  clear_none c (m ∷ ms) h =
      let p = absent_parts itself n m ms h in
      go (declares (f m)) (ne_eqb m n p.0) (clear_none (past c (f m)) ms p.1) (clear_none c ms p.1)
    where
      go : (x : Bool) → eqb m n ≡ false → clear_from n (past c (f m)) (entries f ms) ≡ true → clear_from n c (entries f ms) ≡ true → clear_from n c (cond x (entry m (f m) ∷ entries f ms) (entries f ms)) ≡ true
      go true e i j = ap (λ (b : Bool). (not b || lets c (f m)) && clear_from n (past c (f m)) (entries f ms)) e ∙ i
      go false e i j = j

  abbrev own : Clear → List Entry → Bool
  own c es = three c (f n) (clear Rd (earlier n es)) (clear Wr (earlier n es)) (clear Cm (earlier n es))

  own_first : (c : Clear) (m : ℕ) (es : List Entry) → m ≡ n → (x : Bool) → declares (f m) ≡ x → clear_from n (past c (f m)) es ≡ true → clear_from n c es ≡ true → clear_from n c (cond x (entry m (f m) ∷ es) es) ≡ own c (cond x (entry m (f m) ∷ es) es)
  unfolding clear_from earlier clear
  own_first c m es e true d i j =
      ap₂ (λ (b s : Bool). (not b || lets c (f m)) && s) (eq-eqb m n e) i ∙ and_true (lets c (f m)) ∙ ap (λ (k : ℕ). lets c (f k)) e ∙ sym (three_same c (f n))
      ∙ ap (λ (l : List Entry). three c (f n) (clear Rd l) (clear Wr l) (clear Cm l)) (sym (cond-true (eqb m n) [] (entry m (f m) ∷ earlier n es) (eq-eqb m n e)))
  own_first c m es e false d i j = j ∙ three_none c (f n) (clear Rd (earlier n es)) (clear Wr (earlier n es)) (clear Cm (earlier n es)) (ap (λ (k : ℕ). declares (f k)) (sym e) ∙ d)

  own_later : (c : Clear) (m : ℕ) (es : List Entry) → (m ≡ n → ⊥) → (x : Bool) → clear_from n (past c (f m)) es ≡ own (past c (f m)) es → clear_from n c es ≡ own c es → clear_from n c (cond x (entry m (f m) ∷ es) es) ≡ own c (cond x (entry m (f m) ∷ es) es)
  unfolding clear_from earlier clear
  own_later c m es e true i j =
      ap (λ (b : Bool). (not b || lets c (f m)) && clear_from n (past c (f m)) es) (ne_eqb m n e) ∙ i
      ∙ three_past c (f m) (f n) (clear Rd (earlier n es)) (clear Wr (earlier n es)) (clear Cm (earlier n es))
      ∙ ap (λ (l : List Entry). three c (f n) (clear Rd l) (clear Wr l) (clear Cm l)) (sym (cond-false (eqb m n) [] (entry m (f m) ∷ earlier n es) (ne_eqb m n e)))
  own_later c m es e false i j = j

  clear_own : (c : Clear) (ns : List ℕ) → apart itself ns ≡ true → absent itself n ns ≡ false → clear_from n c (entries f ns) ≡ own c (entries f ns)
  unfolding entries absent
  clear_own c [] h g = absurd (both_ways true g refl)
  clear_own c (m ∷ ms) h g =
      let p = apart_parts itself m ms h in
      ⊎_elim
      (λ t. let e = eqb-true m n t in let none : absent itself n ms ≡ true = ap (λ (k : ℕ). absent itself k ms) (sym e) ∙ p.0 in
      own_first c m (entries f ms) e (declares (f m)) refl (clear_none (past c (f m)) ms none) (clear_none c ms none))
      (λ t. let there : absent itself n ms ≡ false = ap (λ (b : Bool). not b && absent itself n ms) (sym t) ∙ g in
      own_later c m (entries f ms) (eqb-false m n t) (declares (f m)) (clear_own (past c (f m)) ms p.1 there) (clear_own c ms p.1 there))
      (cases_Bool (eqb m n))

-- Readiness, by the queues.

each_same : (k : ℕ) (f g : ℕ → Bool) → ((o : ℕ) → f o ≡ g o) → each k f ≡ each k g
unfolding each
each_same zero f g h = refl
each_same (suc k) f g h = ap₂ (λ (x y : Bool). x && y) (h k) (each_same k f g h)

module _ (qs : List (List Entry)) (ss : List State) (ns : List ℕ) (t : ℕ → Task) (h : AllQueued qs ns) (once : apart itself ns ≡ true) (told : Told qs t ns) where
  abbrev line : List Member
  line = members_at ss t ns

  -- what is asked of one object
  one_object : (n : ℕ) → absent itself n ns ≡ false → (o : ℕ) → clear_from n at_first (get_or qs o []) ≡ (clear_for line (member_at ss t n) o Rd && (clear_for line (member_at ss t n) o Wr && clear_for line (member_at ss t n) o Cm))
  unfolding clear_for
  one_object n here o =
      ap (clear_from n at_first) (h o) ∙ clear_own (declared_in (get_or qs o [])) n at_first ns once here
      ∙ ap (λ (es : List Entry). own (declared_in (get_or qs o [])) n at_first es) (sym (h o) ∙ sym (queue_stored qs ss t ns h told o))
      ∙ ap₂ (λ (d : Declared) (k : ℕ). three at_first d (clear Rd (earlier k (queue o line))) (clear Wr (earlier k (queue o line))) (clear Cm (earlier k (queue o line)))) (sym (on_told qs ss t n o (told n here))) (sym (number_at ss t n))

  ready_is : (n : ℕ) → absent itself n ns ≡ false → ready line (member_at ss t n) ≡ (not (is_stuck (status_of (state_at ss n))) && clear_in qs n)
  unfolding ready clear_in member_at member
  ready_is n here =
      ap (λ (b : Bool). not (is_stuck (status_of (state_at ss n))) && b)
      (ap (λ (k : ℕ). each k (λ o. clear_for line (member_at ss t n) o Rd && (clear_for line (member_at ss t n) o Wr && clear_for line (member_at ss t n) o Cm))) (ap length (told n here) ∙ length_declared qs n)
      ∙ sym (each_same (length qs) (λ o. clear_from n at_first (get_or qs o [])) (λ o. clear_for line (member_at ss t n) o Rd && (clear_for line (member_at ss t n) o Wr && clear_for line (member_at ss t n) o Cm)) (one_object n here)))

  -- a turn that is out is of a ready task
  pub out_ready : Unfinished ss ns → ((n : ℕ) → is_out_state (state_at ss n) ≡ true → clear_in qs n ≡ true) → (n : ℕ) → is_out_state (state_at ss n) ≡ true → ready line (member n out (t n)) ≡ true
  unfolding member_at is_stuck
  out_ready left turns n e = go (state_at ss n) refl e
    where
      go : (s : State) → state_at ss n ≡ s → is_out_state s ≡ true → ready line (member n out (t n)) ≡ true
      go Finished q e = absurd (both_ways false refl e)
      go Waiting q e = absurd (both_ways false refl e)
      go (Stuck f) q e = absurd (both_ways false refl e)
      go Out q e =
          ap (λ (x : State). ready line (member n (status_of x) (t n))) (sym q)
          ∙ ready_is n (left n ∙ ap is_finished q)
          ∙ ap₂ (λ (x : State) (b : Bool). not (is_stuck (status_of x)) && b) q (turns n (ap is_out_state q))

  -- ready, with no turn out: a task that waits and is clear
  waits : (s : State) (x : Bool) → is_finished s ≡ false → ((not (is_stuck (status_of s)) && x) && not (is_out (status_of s))) ≡ (is_waiting s && x)
  unfolding is_stuck is_out
  waits Finished x e = absurd (both_ways true e refl)
  waits Waiting x e = and_true x
  waits Out true e = refl
  waits Out false e = refl
  waits (Stuck f) x e = refl

  on_offer_is : Unfinished ss ns → (n : ℕ) → absent itself n ns ≡ false → on_offer line (member_at ss t n) ≡ (is_waiting (state_at ss n) && clear_in qs n)
  unfolding on_offer member_at member
  on_offer_is left n here = ap (λ (b : Bool). b && not (is_out (status_of (state_at ss n)))) (ready_is n here) ∙ waits (state_at ss n) (clear_in qs n) (sym (left n) ∙ here)

  -- what is taken
  pub can_take_is : Unfinished ss ns → (n : ℕ) → can_take n line ≡ (is_waiting (state_at ss n) && clear_in qs n)
  unfolding can_take members_at
  can_take_is left n =
      ⊎_elim
      (λ none. ap (λ (o : Option Member). option_map_or (on_offer line) o false) (find_none (member_at ss t) (number_at ss t) n ns none) ∙ sym (gone (state_at ss n) (sym (left n) ∙ none)))
      (λ here. ap (λ (o : Option Member). option_map_or (on_offer line) o false) (find_there (member_at ss t) (number_at ss t) n ns here) ∙ on_offer_is left n here)
      (cases_Bool (absent itself n ns))
    where
      gone : (s : State) → is_finished s ≡ true → (is_waiting s && clear_in qs n) ≡ false
      gone Finished e = refl
      gone Waiting e = absurd (both_ways false refl e)
      gone Out e = refl
      gone (Stuck f) e = refl

-- what is offered
offered_kept : (line : List Member) (ss : List State) (t : ℕ → Task) (p : ℕ → Bool) (ns : List ℕ) → ((n : ℕ) → absent itself n ns ≡ false → on_offer line (member_at ss t n) ≡ p n) → offered line (members_at ss t ns) ≡ filter p ns
unfolding offered members_at
offered_kept _ ss t p [] h = refl
offered_kept line ss t p (n ∷ ns) h =
    ap (λ (m : ℕ). cond (on_offer line (member_at ss t n)) (m ∷ offered line (map (member_at ss t) ns)) (offered line (map (member_at ss t) ns))) (number_at ss t n)
    ∙ ap₂ (λ (b : Bool) (l : List ℕ). cond b (n ∷ l) l) (h n (there_first n ns)) (offered_kept line ss t p ns (λ m g. h m (there_later m n ns g)))

pub offered_is : (qs : List (List Entry)) (ss : List State) (ns : List ℕ) (t : ℕ → Task) (flags : List Bool) (made : ℕ) → AllQueued qs ns → apart itself ns ≡ true → Told qs t ns → Unfinished ss ns → below made ns ≡ true → made ≤ 64 → ((n : ℕ) → n < 256 → get_or flags n false ≡ clear_in qs n)
    → filter (offers ss flags) ns ≡ offered (members_at ss t ns) (members_at ss t ns)
unfolding offers
offered_is qs ss ns t flags made h once told left known few set' =
    sym (offered_kept (members_at ss t ns) ss t (offers ss flags) ns
    (λ n here. on_offer_is qs ss ns t h once told left n here ∙ ap (λ (b : Bool). is_waiting (state_at ss n) && b) (sym (set' n (omega (arith, there_below made n ns known here))))))
