-- What the bench's calls leave of the turns that are out.
use Rattle.std.proofs.Common.{◌≡◌, ℕ, ◌<◌, Bool, true, false, cond, eqb, ◌⊎◌, List, [], ◌∷◌, ◌++◌, length, is_ok, Some, None, Option, Ok, Err, Result, sym, refl, ap, ◌∙◌, subst, inl, inr, arith}
use Rattle.std.proofs.lemmas.Bool.{both_ways, cond-false, eqb-true, ne_eqb, and_parts, and_from, not-true}
use Rattle.kinds.specs.Kinds.{Kind}
use Rattle.working.specs.Requests.{leaves, goes, makes, Reply, faulted, stepped}
use Rattle.runs.specs.Lines.{Status, waiting, out, stuck, is_out, Member, member, with_status, find, replace}
use Rattle.runs.specs.Ready.{ready, on_offer}
use Rattle.runs.specs.Benches as Model
use Rattle.runs.specs.Benches.{bench, offer}
use Rattle.runs.specs.Steps.{marked, members, after_reply, replied, step, put, advanced}
use Rattle.runs.specs.Events.{Event, can_take, has_turn, effect}
use Rattle.runs.specs.Choices.{Chooses, chosen}
use Rattle.runs.specs.declared.refusal.Refusal.{Refusal}
use Rattle.runs.specs.declared.refusal.Refusal.TheVariants.{NothingToOffer, Foreign}
use Rattle.runs.specs.Refusals.{refusal_number}
use Rattle.runs.specs.Calls as Call
use Rattle.runs.specs.Calls.{Call, take, perform, hand_back, Answer}
use Rattle.runs.specs.Tests.{fits_turn, fits, unless, not_empty, own_refusal, refusal}
use Rattle.runs.specs.Answers.{granted, answered, answer}
use Rattle.runs.specs.Promise.{RefusedWith, OwnNumber}
use Rattle.runs.proofs.Changes.{put_run, effect_run}
use Rattle.runs.proofs.Lines.{found}
use Rattle.runs.proofs.Events.{test_found, put_found, advanced_found}
use Rattle.runs.proofs.Refusals.{answer_granted, refuses}
use Rattle.tasks.specs.Views.{tasks_of}
use Rattle.lines.proofs.Offered.{turn_made, offered_takes}
use Rattle.bench.specs.declared.bench.Bench.{Bench}
use Rattle.bench.specs.declared.tokens.Turn.{Turn}
use Rattle.bench.specs.declared.answers.Refused.{Refused}
use Rattle.bench.specs.Tasks.{task_at}
use Rattle.bench.specs.Views.{bench_of, turn_of, answer_of}

-- A member that stays when others come in place of task n.

skipped : (m : ℕ) (w : Member) → (w.number ≡ m → ⊥) → (ss : List Member) → find m (w ∷ ss) ≡ find m ss
unfolding find
skipped m w ne ss = cond-false (eqb w.number m) (Some w) (find m ss) (ne_eqb w.number m ne)

find_other : (n m : ℕ) → (m ≡ n → ⊥) → (new : List Member) → ((ss : List Member) → find m (new ++ ss) ≡ find m ss) → (line : List Member) → find m (replace n new line) ≡ find m line
unfolding find replace
find_other n m ne new skips [] = refl
find_other n m ne new skips (s ∷ ss) = go (eqb s.number n) refl (find_other n m ne new skips ss)
  where
    go : (x : Bool) → eqb s.number n ≡ x → find m (replace n new ss) ≡ find m ss → find m (cond x (new ++ ss) (s ∷ replace n new ss)) ≡ cond (eqb s.number m) (Some s) (find m ss)
    go true e h = skips ss ∙ sym (cond-false (eqb s.number m) (Some s) (find m ss) (ne_eqb s.number m (λ q. ne (sym q ∙ eqb-true s.number n e))))
    go false e h = ap (cond (eqb s.number m) (Some s)) h

marked_other : (b : Model.Bench) (s : Member) (u : Status) (m : ℕ) → (m ≡ s.number → ⊥) → find m (marked b s u).line ≡ find m b.line
unfolding marked bench with_status member
marked_other b s u m ne = find_other s.number m ne (with_status s u ∷ []) (skipped m (with_status s u) (λ q. ne (sym q))) b.line

step_other : (k : Kind) (b : Model.Bench) (s : Member) (m : ℕ) → (m ≡ s.number → ⊥) → (m ≡ b.made → ⊥) → find m (step k b s).line ≡ find m b.line
unfolding step after_reply members bench member
step_other k b s m ne nc = go (replied k b s)
  where
    go : (q : Reply) → find m (after_reply k b s q).line ≡ find m b.line
    go (faulted f l) = marked_other b s (stuck f l) m ne
    go (stepped leaves) = find_other s.number m ne [] (λ ss. refl) b.line
    go (stepped (goes t)) = find_other s.number m ne (member s.number waiting t ∷ []) (skipped m (member s.number waiting t) (λ q. ne (sym q))) b.line
    go (stepped (makes u t)) =
        find_other s.number m ne (member b.made waiting u ∷ member s.number waiting t ∷ [])
        (λ ss. skipped m (member b.made waiting u) (λ q. nc (sym q)) (member s.number waiting t ∷ ss) ∙ skipped m (member s.number waiting t) (λ q. ne (sym q)) ss)
        b.line

-- Its turn is as it was.

same_turn : (m : ℕ) (v w : List Member) → find m v ≡ find m w → has_turn m w ≡ true → has_turn m v ≡ true
unfolding has_turn
same_turn m v w e h = rw e h

put_keeps : (n : ℕ) (u : Status) (b : Model.Bench) (s : Member) → find n b.line ≡ Some s → (m : ℕ) → (m ≡ n → ⊥) → has_turn m b.line ≡ true → has_turn m (put n u b).line ≡ true
put_keeps n u b s here m ne h =
    let own : s.number ≡ n = (found n b.line s here).number in
    same_turn m (put n u b).line b.line (ap (λ (v : Model.Bench). find m v.line) (put_found n u b s here) ∙ marked_other b s u m (λ q. ne (q ∙ own))) h

advanced_keeps : (k : Kind) (n : ℕ) (b : Model.Bench) (s : Member) → find n b.line ≡ Some s → (m : ℕ) → (m ≡ n → ⊥) → (m ≡ b.made → ⊥) → has_turn m b.line ≡ true → has_turn m (advanced k n b).line ≡ true
advanced_keeps k n b s here m ne nc h =
    let own : s.number ≡ n = (found n b.line s here).number in
    same_turn m (advanced k n b).line b.line (ap (λ (v : Model.Bench). find m v.line) (advanced_found k n b s here) ∙ step_other k b s m (λ q. ne (q ∙ own)) nc) h

-- what is on offer has no turn out
offered_in : (n : ℕ) (line : List Member) → can_take n line ≡ true → has_turn n line ≡ true → {X : Type 0} → X
unfolding can_take has_turn on_offer
offered_in n line e h =
    let s = test_found n line (on_offer line) e in
    let u = test_found n line (λ s. is_out s.status) h in
    let same : s.0 ≡ u.0 = some_same s.0 u.0 (sym s.1 ∙ u.1) in
    absurd (both_ways (is_out s.0.status) (not-true _ (and_parts (ready line s.0) _ s.2).1) (ap (λ (v : Member). is_out v.status) same ∙ u.2))
  where
    some_same : (x y : Member) → Some x ≡ Some y → x ≡ y
    some_same x y q = cc

-- Calls of the bench.

-- a call that fits and that can be refused for nothing of its own is granted
not_refused : {A T : Type 0} (f : A → Answer) (r : Result A (Refused T)) (k : Kind) (x : Call) (b : Model.Bench) → (answer k x b).0 ≡ answer_of f r → fits x b ≡ true → ((n : ℕ) → OwnNumber x n → ⊥) → is_ok r ≡ true
not_refused f (Ok y) k x b a fit never = refl
not_refused f (Err e) k x b a fit never = absurd (go ((refuses k b).no_other x (refusal_number e.refusal) w))
  where
    w : RefusedWith k x b (refusal_number e.refusal)
    w = (e.refusal, a, refl)

    go : (refusal_number e.refusal ≡ 8) ⊎ OwnNumber x (refusal_number e.refusal) → ⊥
    go (inl q) = both_ways (fits x b) (((refuses k b).foreign x).0 (subst (RefusedWith k x b) q w)) fit
    go (inr q) = never (refusal_number e.refusal) q

-- a turn that is out, of bench b
module _ {K : Type 0} (b : Bench K) (t : Turn) (fit : fits_turn (turn_of t) (bench_of b) ≡ true) where
  has : has_turn t.task (bench_of b).line ≡ true
  unfolding fits_turn
  has = (and_parts (eqb t.run (bench_of b).run) (has_turn t.task (bench_of b).line) fit).1

  same_run : eqb t.run (bench_of b).run ≡ true
  unfolding fits_turn
  same_run = (and_parts (eqb t.run (bench_of b).run) (has_turn t.task (bench_of b).line) fit).0

  here : (s : Member) × (find t.task (bench_of b).line ≡ Some s) × (is_out s.status ≡ true)
  unfolding has_turn
  here = test_found t.task (bench_of b).line (λ s. is_out s.status) has

  made : t.task ≡ (bench_of b).made → ⊥
  unfolding bench
  made e = omega (arith, turn_made b.line (task_at (tasks_of b.tasks)) t.task has, b.numbered)

-- Turn t is performed or handed back, or a turn is taken: what of the others?

fits_after : (u : Turn) (v w : Model.Bench) → w.run ≡ v.run → eqb u.run v.run ≡ true → has_turn u.task w.line ≡ true → fits_turn (turn_of u) w ≡ true
unfolding fits_turn
fits_after u v w r e h = and_from (eqb u.run w.run) (has_turn u.task w.line) (ap (eqb u.run) r ∙ e) h

module _ {K : Type 0} (k : Kind) (b b' : Bench K) (t : Turn) (fit : fits_turn (turn_of t) (bench_of b) ≡ true) {P : Type 0} (f : P → Answer) (r : Result P (Refused Turn)) where
  module _ (a : answer k (perform (turn_of t)) (bench_of b) ≡ (answer_of f r, bench_of b')) where
    pub performed_ok : is_ok r ≡ true
    unfolding fits
    performed_ok = not_refused f r k (perform (turn_of t)) (bench_of b) (ap (λ (x : Answer × Model.Bench). x.0) a) fit (λ n h. h)

    pub performed_is : bench_of b' ≡ advanced k t.task (bench_of b)
    unfolding fits own_refusal granted effect
    performed_is = ap (λ (x : Answer × Model.Bench). x.1) (sym a ∙ answer_granted k (bench_of b) (perform (turn_of t)) fit refl)

    pub performed_keeps : (u : Turn) → fits_turn (turn_of u) (bench_of b) ≡ true → (u.task ≡ t.task → ⊥) → fits_turn (turn_of u) (bench_of b') ≡ true
    unfolding effect
    performed_keeps u known ne =
        let s = here b t fit in
        fits_after u (bench_of b) (bench_of b')
        (ap (λ (v : Model.Bench). v.run) performed_is ∙ effect_run k (Event.performed t.task) (bench_of b))
        (same_run b u known)
        (ap (λ (v : Model.Bench). has_turn u.task v.line) performed_is ∙ advanced_keeps k t.task (bench_of b) s.0 s.1 u.task ne (made b u known) (has b u known))

  module _ (a : answer k (hand_back (turn_of t)) (bench_of b) ≡ (answer_of f r, bench_of b')) where
    pub returned_ok : is_ok r ≡ true
    unfolding fits
    returned_ok = not_refused f r k (hand_back (turn_of t)) (bench_of b) (ap (λ (x : Answer × Model.Bench). x.0) a) fit (λ n h. h)

    returned_is : bench_of b' ≡ put t.task waiting (bench_of b)
    unfolding fits own_refusal granted effect
    returned_is = ap (λ (x : Answer × Model.Bench). x.1) (sym a ∙ answer_granted k (bench_of b) (hand_back (turn_of t)) fit refl)

    pub returned_keeps : (u : Turn) → fits_turn (turn_of u) (bench_of b) ≡ true → (u.task ≡ t.task → ⊥) → fits_turn (turn_of u) (bench_of b') ≡ true
    returned_keeps u known ne =
        let s = here b t fit in
        fits_after u (bench_of b) (bench_of b')
        (ap (λ (v : Model.Bench). v.run) returned_is ∙ put_run t.task waiting (bench_of b))
        (same_run b u known)
        (ap (λ (v : Model.Bench). has_turn u.task v.line) returned_is ∙ put_keeps t.task waiting (bench_of b) s.0 s.1 u.task ne (has b u known))

-- A turn is taken.

-- it was offered
record Given (k : Kind) (f : List ℕ → ℕ) (v w : Model.Bench) (n : ℕ) : Type 0 where
  number : n ≡ chosen f (offer v)
  some_offered : 0 < length (offer v)
  is : w ≡ put n out v

unless_none : (ns : List ℕ) (q : Refusal) → unless (not_empty ns) q ≡ None → 0 < length ns
unfolding unless not_empty
unless_none [] q e = cc
unless_none (n ∷ ns) q e = omega arith

given : (k : Kind) (g : Call.Going) (f : List ℕ → ℕ) (v w : Model.Bench) (t : Call.Turn) → answer k (take g f) v ≡ (Answer.turn t, w) → Given k f v w t.task
unfolding answer answered refusal own_refusal granted effect
given k g f v w t a = go (fits (take g f) v) (own_refusal k (take g f) v) refl a
  where
    go : (x : Bool) (o : Option Refusal) → own_refusal k (take g f) v ≡ o → answered (cond x o (Some Foreign)) v (granted k (take g f) v) ≡ (Answer.turn t, w) → Given k f v w t.task
    go false o e q = let p : Answer.refused Foreign ≡ Answer.turn t = ap (λ (x : Answer × Model.Bench). x.0) q in cc
    go true (Some y) e q = let p : Answer.refused y ≡ Answer.turn t = ap (λ (x : Answer × Model.Bench). x.0) q in cc
    go true None e q =
        let n = chosen f (offer v) in
        let p : Answer.turn (Call.turn_of v.run n) ≡ Answer.turn t = ap (λ (x : Answer × Model.Bench). x.0) q in
        let same : Call.turn_of v.run n ≡ t = cc in
        let number : n ≡ t.task = ap (λ (x : Call.Turn). x.task) same in
        record {
          number = sym number;
          some_offered = unless_none (offer v) NothingToOffer e;
          is = sym (ap (λ (x : Answer × Model.Bench). x.1) q) ∙ ap (λ (i : ℕ). put i out v) number;
        }

chosen_place : (f : List ℕ → ℕ) → Chooses f → (ns : List ℕ) → 0 < length ns → f ns < length ns
chosen_place f law [] h = absurd (omega arith)
chosen_place f law (n ∷ ns) h = law n ns

module _ {K : Type 0} (k : Kind) (b b' : Bench K) (t : Turn) (g : Call.Going) (f : List ℕ → ℕ) (law : Chooses f) (a : answer k (take g f) (bench_of b) ≡ (Answer.turn (turn_of t), bench_of b')) where
  gave : Given k f (bench_of b) (bench_of b') t.task
  gave = given k g f (bench_of b) (bench_of b') (turn_of t) a

  allowed : can_take t.task (bench_of b).line ≡ true
  unfolding bench offer
  allowed =
      subst (λ (i : ℕ). can_take i (bench_of b).line ≡ true) (sym gave.number)
      (offered_takes b.line (task_at (tasks_of b.tasks)) b.told (f (offer (bench_of b))) (chosen_place f law (offer (bench_of b)) gave.some_offered))

  module _ (u : Turn) (known : fits_turn (turn_of u) (bench_of b) ≡ true) where
    -- another task's turn was out
    pub taken_other : u.task ≡ t.task → ⊥
    taken_other e = offered_in t.task (bench_of b).line allowed (subst (λ (i : ℕ). has_turn i (bench_of b).line ≡ true) e (has b u known))

    pub taken_keeps : fits_turn (turn_of u) (bench_of b') ≡ true
    unfolding can_take
    taken_keeps =
        let s = test_found t.task (bench_of b).line (on_offer (bench_of b).line) allowed in
        fits_after u (bench_of b) (bench_of b')
        (ap (λ (v : Model.Bench). v.run) gave.is ∙ put_run t.task out (bench_of b))
        (same_run b u known)
        (ap (λ (v : Model.Bench). has_turn u.task v.line) gave.is ∙ put_keeps t.task out (bench_of b) s.0 s.1 u.task taken_other (has b u known))

-- a call that is refused leaves the bench
pub refused_same : {K : Type 0} (k : Kind) (b b' : Bench K) (x : Call) (q : Refusal) → answer k x (bench_of b) ≡ (Answer.refused q, bench_of b') → bench_of b' ≡ bench_of b
refused_same k b b' x q a =
    sym (ap (λ (y : Answer × Model.Bench). y.1) a)
    ∙ (refuses k (bench_of b)).unchanged x (refusal_number q) (q, ap (λ (y : Answer × Model.Bench). y.0) a, refl)
