-- When a call is refused, and that it then changes nothing.
use Rattle.std.proofs.Common.{◌≡◌, ℕ, Bool, true, false, cond, not, eqb, leb, ◌⊎◌, ◌↔◌, List, [], ◌∷◌, length, Some, None, Option, sym, refl, ap, ◌∙◌, subst, inl, inr, arith}
use Rattle.std.specs.Option.{option_map_or}
use Rattle.std.proofs.lemmas.Bool.{both_ways, not-false, not_from_true, leb-false, lt-leb, cond-true, cond-false}
use Rattle.kinds.specs.Kinds.{Kind}
use Rattle.working.specs.Requests.{Reply, faulted, stepped}
use Rattle.runs.specs.Lines.{is_out, Member, any_out}
use Rattle.runs.specs.Benches.{Bench, offer}
use Rattle.runs.specs.Steps.{replied}
use Rattle.runs.specs.Events.{has_turn, can_close}
use Rattle.runs.specs.BenchSheets.{bench_sheet}
use Rattle.runs.specs.Refusals.{Refusal, NothingToOffer, Foreign, Unsettled, BufferTooShort, refusal_number}
use Rattle.runs.specs.Calls.{Closed, Turn, Call, Answer, refused}
use Rattle.runs.specs.Tests.{fits_turn, fits, unless, not_empty, too_long, own_refusal, refusal}
use Rattle.runs.specs.Answers.{reply_answer, step_answer, write_out, granted, answered, answer, sheet_call}
use Rattle.runs.specs.Promise.{RefusedWith, OwnNumber, Refuses}
use Rattle.runs.proofs.Events.{test_found}

-- A number tells its refusal.

abbrev numbered : ℕ → Refusal
numbered n = cond (eqb n 7) NothingToOffer (cond (eqb n 8) Foreign (cond (eqb n 9) Unsettled BufferTooShort))

numbered_number : (r : Refusal) → numbered (refusal_number r) ≡ r
numbered_number NothingToOffer = refl
numbered_number Foreign = refl
numbered_number Unsettled = refl
numbered_number BufferTooShort = refl

same_number : (r q : Refusal) → refusal_number r ≡ refusal_number q → r ≡ q
same_number r q e = sym (numbered_number r) ∙ ap numbered e ∙ numbered_number q

-- One test.

unless_some : (t : Bool) (r q : Refusal) → unless t r ≡ Some q → (t ≡ false) × (r ≡ q)
unfolding unless
unless_some true r q e = cc
unless_some false r q e = (refl, cc)

-- a step of a task whose turn is out is not refused
step_granted : (k : Kind) (t : Turn) (b : Bench) (r : Refusal) → fits_turn t b ≡ true → step_answer k t.task b ≡ refused r → ⊥
unfolding fits_turn has_turn step_answer reply_answer
step_granted k t b r f e =
    let s = test_found t.task b.line (λ s. is_out s.status) (grind arith) in
    no (replied k b s.0) (sym (ap (λ (o : Option Member). option_map_or (λ s. reply_answer (replied k b s)) o (refused Foreign)) s.1) ∙ e)
  where
    no : (p : Reply) → reply_answer p ≡ refused r → ⊥
    no (faulted f l) e = cc
    no (stepped x) e = cc

module _ (k : Kind) (b : Bench) where
  -- a granted call answers no refusal
  not_refused : (x : Call) (r : Refusal) → fits x b ≡ true → (granted k x b).0 ≡ refused r → ⊥
  unfolding fits granted write_out
  not_refused (Call.take g f) r h e = cc
  not_refused (Call.perform t) r h e = step_granted k t b r h e
  not_refused (Call.hand_back t) r h e = cc
  not_refused (Call.look o i) r h e = cc
  not_refused (Call.work_off g fs) r h e = cc
  not_refused (Call.close g) r h e = cc
  not_refused (Call.sheet z buffer) r h e = cc

  -- refused for being foreign, or for the call's own reason
  data Why (x : Call) (r : Refusal) : Type 0 where
    foreign : fits x b ≡ false → r ≡ Foreign → Why x r
    own : fits x b ≡ true → own_refusal k x b ≡ Some r → Why x r

  refusal_is : (x : Call) (r : Refusal) → (answer k x b).0 ≡ refused r → refusal k x b ≡ Some r
  unfolding answer answered refusal
  refusal_is x r e = go (fits x b) refl (own_refusal k x b) e
    where
      go : (y : Bool) → fits x b ≡ y → (o : Option Refusal) → (answered (cond y o (Some Foreign)) b (granted k x b)).0 ≡ refused r → cond y o (Some Foreign) ≡ Some r
      go true p None e = absurd (not_refused x r p e)
      go true p (Some q) e = ap (λ (v : Refusal). Some v) cc
      go false p o e = ap (λ (v : Refusal). Some v) cc

  why : (x : Call) (r : Refusal) → refusal k x b ≡ Some r → Why x r
  unfolding refusal
  why x r e = go (fits x b) refl e
    where
      go : (y : Bool) → fits x b ≡ y → cond y (own_refusal k x b) (Some Foreign) ≡ Some r → Why x r
      go true p e = own p e
      go false p e = foreign p cc

  pub answer_refused : (x : Call) (r : Refusal) → refusal k x b ≡ Some r → answer k x b ≡ (refused r, b)
  unfolding answer answered
  answer_refused x r e = ap (λ (o : Option Refusal). answered o b (granted k x b)) e

  pub answer_granted : (x : Call) → fits x b ≡ true → own_refusal k x b ≡ None → answer k x b ≡ granted k x b
  unfolding answer answered refusal
  answer_granted x h e = ap (λ (o : Option Refusal). answered o b (granted k x b)) (cond-true (fits x b) _ _ h ∙ e)

  refused_with : (x : Call) (r : Refusal) → refusal k x b ≡ Some r → RefusedWith k x b (refusal_number r)
  refused_with x r e = (r, ap (λ (v : Answer × Bench). v.0) (answer_refused x r e), refl)

  -- The rows.

  -- the call's own reason is another one
  never : (x : Call) → own_refusal k x b ≡ Some Foreign → ⊥
  unfolding own_refusal too_long
  never (Call.take g f) e = let q = (unless_some _ _ _ e).1 in cc
  never (Call.perform t) e = cc
  never (Call.hand_back t) e = cc
  never (Call.look o i) e = cc
  never (Call.work_off g fs) e = let q = (unless_some _ _ _ e).1 in cc
  never (Call.close g) e = let q = (unless_some _ _ _ e).1 in cc
  never (Call.sheet s buffer) e = let q = (unless_some _ _ _ e).1 in cc

  foreign_row : (x : Call) → RefusedWith k x b 8 ↔ (fits x b ≡ false)
  unfolding refusal
  foreign_row x = (to, λ e. refused_with x Foreign (cond-false (fits x b) _ _ e))
    where
      by_why : (r : Refusal) → r ≡ Foreign → Why x r → fits x b ≡ false
      by_why r e (foreign h q) = h
      by_why r e (own h q) = absurd (never x (q ∙ ap (λ (v : Refusal). Some v) e))

      to : RefusedWith k x b 8 → fits x b ≡ false
      to h = by_why h.0 (same_number h.0 Foreign h.2) (why x h.0 (refusal_is x h.0 h.1))

  own_row : (x : Call) (t : Bool) (r : Refusal) → own_refusal k x b ≡ unless t r → fits x b ≡ true → RefusedWith k x b (refusal_number r) ↔ (t ≡ false)
  unfolding refusal unless
  own_row x t r e h = (to, λ q. refused_with x r (cond-true (fits x b) _ _ h ∙ e ∙ ap (λ (v : Bool). unless v r) q))
    where
      by_why : (q : Refusal) → q ≡ r → Why x q → t ≡ false
      by_why q d (foreign g p) = absurd (both_ways (fits x b) g h)
      by_why q d (own g p) = (unless_some t r q (sym e ∙ p)).0

      to : RefusedWith k x b (refusal_number r) → t ≡ false
      to g = by_why g.0 (same_number g.0 r g.2) (why x g.0 (refusal_is x g.0 g.1))

  own_number : (x : Call) (r : Refusal) → own_refusal k x b ≡ Some r → OwnNumber x (refusal_number r)
  unfolding own_refusal too_long
  own_number (Call.take g f) r e = ap refusal_number (sym (unless_some _ _ _ e).1)
  own_number (Call.perform t) r e = cc
  own_number (Call.hand_back t) r e = cc
  own_number (Call.look o i) r e = cc
  own_number (Call.work_off g fs) r e = ap refusal_number (sym (unless_some _ _ _ e).1)
  own_number (Call.close g) r e = ap refusal_number (sym (unless_some _ _ _ e).1)
  own_number (Call.sheet z buffer) r e = ap refusal_number (sym (unless_some _ _ _ e).1)

  no_other : (x : Call) (n : ℕ) → RefusedWith k x b n → (n ≡ 8) ⊎ OwnNumber x n
  no_other x n h = by_why (why x h.0 (refusal_is x h.0 h.1))
    where
      by_why : Why x h.0 → (n ≡ 8) ⊎ OwnNumber x n
      by_why (foreign g q) = inl (sym h.2 ∙ ap refusal_number q)
      by_why (own g q) = inr (subst (OwnNumber x) h.2 (own_number x h.0 q))

  -- What the tests say.

  both : {A B C : Type 0} → A ↔ B → (B → C) → (C → B) → A ↔ C
  both e f g = ((λ a. f (e.0 a)), (λ c. e.1 (g c)))

  nothing_offered : (ns : List ℕ) → not_empty ns ≡ false → ns ≡ []
  unfolding not_empty
  nothing_offered [] e = refl
  nothing_offered (n ∷ ns) e = cc

  buffer_kept : (s : Closed) (buffer : List ℕ) (r : Refusal) → refusal k (Call.sheet s buffer) b ≡ Some r → (answer k (Call.sheet s buffer) b).0 ≡ refused r → sheet_call k s buffer b ≡ ((answer k (Call.sheet s buffer) b).0, buffer)
  unfolding sheet_call answered
  buffer_kept s buffer r e h = ap (λ (o : Option Refusal). answered o buffer (write_out (bench_sheet k b) buffer)) e ∙ ap {B = Answer × List ℕ} (λ (a : Answer). (a, buffer)) (sym h)

  pub refuses : Refuses k b
  unfolding own_refusal too_long not_empty
  refuses = record {
    foreign = foreign_row;
    nothing_to_offer = λ g f h. both (own_row (Call.take g f) (not_empty (offer b)) NothingToOffer refl h) (nothing_offered (offer b)) (ap not_empty);
    turn_out = λ g fs h. both (own_row (Call.work_off g fs) (not (any_out b.line)) Unsettled refl h) (not-false _) (not_from_true _);
    unsettled = λ g h. own_row (Call.close g) (can_close b) Unsettled refl h;
    too_short = λ s buffer h. both (own_row (Call.sheet s buffer) (leb (length (bench_sheet k b)) (length buffer)) BufferTooShort refl h) (leb-false _ _) (lt-leb _ _);
    no_other = no_other;
    unchanged = λ x n h. ap (λ (v : Answer × Bench). v.1) (answer_refused x h.0 (refusal_is x h.0 h.1));
    buffer_unchanged = λ s buffer n h. buffer_kept s buffer h.0 (refusal_is (Call.sheet s buffer) h.0 h.1) h.1;
  }
