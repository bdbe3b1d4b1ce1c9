-- A work-off ends where the bench can close, and granted events lead there.
use Rattle.std.proofs.Common.{◌≡◌, ℕ, zero, suc, ◌≤◌, Bool, true, false, cond, not, eqb, List, Some, None, Option, sym, refl, ap, ap₂, ◌∙◌, arith}
use Rattle.std.proofs.lemmas.Bool.{cond-true, cond-false}
use Rattle.kinds.specs.Kinds.{Kind, Lawful}
use Rattle.cards.specs.Code.{Card}
use Rattle.working.specs.Serial.{Result}
use Rattle.cards.specs.Literals.{Literals}
use Rattle.runs.specs.Lines.{any_out}
use Rattle.runs.specs.Benches.{Bench, offer, settled}
use Rattle.runs.specs.Events.{took, performed, effect}
use Rattle.runs.specs.Choices.{Chooses, chosen}
use Rattle.runs.specs.Left.{left}
use Rattle.runs.specs.Refusals.{Refusal, Foreign, Unsettled}
use Rattle.runs.specs.Calls.{Going, Call, Answer}
use Rattle.runs.specs.Tests.{fits_going, fits, unless, own_refusal, refusal}
use Rattle.runs.specs.Answers.{turned, worked_off, granted, answered, answer}
use Rattle.runs.specs.WorkOffs.{WorksOff, rests, works, ByRefusal, WorkOffAnswers}
use Rattle.runs.specs.Promise.{Reached, Works, TurnsOn, IsCall, WorkOffPromise}
use Rattle.working.proofs.Serials.{serially_ends}
use Rattle.runs.proofs.Events.{reached_event}
use Rattle.runs.proofs.Changes.{effect_run}
use Rattle.runs.proofs.Reached.{Holds, holds_apply, reached_holds}
use Rattle.runs.proofs.Turns.{Turns, turns}

-- what a work-off starts from, and what it keeps
pub record AtWork (k : Kind) (c : Card) (n : ℕ) (r : Result) (b : Bench) : Type 0 where
  pub holds : Holds k c r b
  pub reached : Reached k c n b
  pub going_on : b.closed ≡ false
  pub none_out : any_out b.line ≡ false

-- ... and where it ends
pub record Worked (k : Kind) (c : Card) (n : ℕ) (r : Result) (b : Bench) : Type 0 where
  pub kept : AtWork k c n r b
  pub settled_yet : settled b ≡ true

module _ (k : Kind) (law : Lawful k) (c : Card) (n : ℕ) (r : Result) where
  turn_keeps : (f : List ℕ → ℕ) (b : Bench) → AtWork k c n r b → Turns k f b → AtWork k c n r (turned k f b)
  turn_keeps f b h t =
      let b₁ = effect k (took (chosen f (offer b))) b in
      record {
        holds = holds_apply k law c r b₁ (performed (chosen f (offer b))) (turned k f b) (holds_apply k law c r b (took (chosen f (offer b))) b₁ h.holds t.takes) t.performs;
        reached = reached_event k c n (performed (chosen f (offer b))) b₁ (turned k f b) (reached_event k c n (took (chosen f (offer b))) b b₁ h.reached t.takes) t.performs;
        going_on = t.going_on;
        none_out = t.none_out;
      }

  turn_of_work : (f : List ℕ → ℕ) (b : Bench) → AtWork k c n r b → settled b ≡ false → Chooses f → Turns k f b
  turn_of_work f b h s l = turns k c r f b h.holds h.going_on h.none_out s l

  -- The function.

  pub work_ends : (fuel : ℕ) (fs : ℕ → List ℕ → ℕ) (b : Bench) → ((i : ℕ) → Chooses (fs i)) → AtWork k c n r b → left b.line ≤ fuel → Worked k c n r (worked_off k fuel fs b)
  unfolding worked_off
  work_ends zero fs b l h e = go (settled b) refl
    where
      go : (x : Bool) → settled b ≡ x → Worked k c n r b
      go true p = record { kept = h; settled_yet = p }
      go false p = let t = (turn_of_work (fs 0) b h p (l 0)).falls in absurd (omega arith)
  work_ends (suc fuel) fs b l h e = go (settled b) refl (work_ends fuel (λ i. fs (suc i)) (turned k (fs 0) b) (λ i. l (suc i)))
    where
      go : (x : Bool) → settled b ≡ x → (AtWork k c n r (turned k (fs 0) b) → left (turned k (fs 0) b).line ≤ fuel → Worked k c n r (worked_off k fuel (λ i. fs (suc i)) (turned k (fs 0) b))) → Worked k c n r (cond x b (worked_off k fuel (λ i. fs (suc i)) (turned k (fs 0) b)))
      go true p f = record { kept = h; settled_yet = p }
      go false p f = let t = turn_of_work (fs 0) b h p (l 0) in let d = t.falls in f (turn_keeps (fs 0) b h t) (omega arith)

  -- The relation.

  module _ (S : Type 0) (choice : S → List ℕ → ℕ) (next : S → List ℕ → S → Type 0) (chooses : (s : S) → Chooses (choice s)) where
    relation_ends : ((s : S) (ns : List ℕ) → (s₁ : S) × next s ns s₁) → (fuel : ℕ) (s : S) (b : Bench) → AtWork k c n r b → left b.line ≤ fuel → (s₁ : S) × (b₁ : Bench) × WorksOff k S choice next s b s₁ b₁
    relation_ends total zero s b h e = go (settled b) refl
      where
        go : (x : Bool) → settled b ≡ x → (s₁ : S) × (b₁ : Bench) × WorksOff k S choice next s b s₁ b₁
        go true p = (s, b, rests p)
        go false p = let t = (turn_of_work (choice s) b h p (chooses s)).falls in absurd (omega arith)
    relation_ends total (suc fuel) s b h e = go (settled b) refl (relation_ends total fuel (total s (offer b)).0 (turned k (choice s) b))
      where
        go : (x : Bool) → settled b ≡ x → (AtWork k c n r (turned k (choice s) b) → left (turned k (choice s) b).line ≤ fuel → (s₁ : S) × (b₁ : Bench) × WorksOff k S choice next (total s (offer b)).0 (turned k (choice s) b) s₁ b₁) → (s₁ : S) × (b₁ : Bench) × WorksOff k S choice next s b s₁ b₁
        go true p f = (s, b, rests p)
        go false p f =
            let t = turn_of_work (choice s) b h p (chooses s) in
            let d = t.falls in
            let w = f (turn_keeps (choice s) b h t) (omega arith) in
            (w.0, w.1, works p (total s (offer b)).1 w.2)

    relation_rests : {s s₁ : S} {b b₁ : Bench} → WorksOff k S choice next s b s₁ b₁ → AtWork k c n r b → Worked k c n r b₁
    relation_rests (rests p) h = record { kept = h; settled_yet = p }
    relation_rests (works {s = s} {b = b} p q w) h = relation_rests w (turn_keeps (choice s) b h (turn_of_work (choice s) b h p (chooses s)))

    -- f, and then those of fs
    abbrev then : (List ℕ → ℕ) → (ℕ → List ℕ → ℕ) → ℕ → List ℕ → ℕ
    then f fs zero = f
    then f fs (suc i) = fs i

    then_chooses : (f : List ℕ → ℕ) (fs : ℕ → List ℕ → ℕ) → Chooses f → ((i : ℕ) → Chooses (fs i)) → (i : ℕ) → Chooses (then f fs i)
    then_chooses f fs l ls zero = l
    then_chooses f fs l ls (suc i) = ls i

    -- the choices that the states came to
    relation_called : {s s₁ : S} {b b₁ : Bench} → WorksOff k S choice next s b s₁ b₁ → AtWork k c n r b → (fs : ℕ → List ℕ → ℕ) × ((i : ℕ) → Chooses (fs i)) × ((fuel : ℕ) → left b.line ≤ fuel → worked_off k fuel fs b ≡ b₁)
    unfolding worked_off
    relation_called (rests {s = s} {b = b} p) h = ((λ i. choice s), (λ i. chooses s), rested s b p)
      where
        rested : (s : S) (b : Bench) → settled b ≡ true → (fuel : ℕ) → left b.line ≤ fuel → worked_off k fuel (λ i. choice s) b ≡ b
        rested s b p zero l = refl
        rested s b p (suc fuel) l = cond-true (settled b) b _ p
    relation_called (works {s = s} {b = b} {b₂ = b₂} p q w) h =
        let t = turn_of_work (choice s) b h p (chooses s) in
        let ih = relation_called w (turn_keeps (choice s) b h t) in
        (then (choice s) ih.0, then_chooses (choice s) ih.0 (chooses s) ih.1, worked s b b₂ ih.0 p t ih.2)
      where
        worked : (s : S) (b b₂ : Bench) (fs : ℕ → List ℕ → ℕ) → settled b ≡ false → Turns k (choice s) b → ((fuel : ℕ) → left (turned k (choice s) b).line ≤ fuel → worked_off k fuel fs (turned k (choice s) b) ≡ b₂) → (fuel : ℕ) → left b.line ≤ fuel → worked_off k fuel (then (choice s) fs) b ≡ b₂
        worked s b b₂ fs p t f zero l = let d = t.falls in absurd (omega arith)
        worked s b b₂ fs p t f (suc fuel) l = let d = t.falls in cond-false (settled b) b _ p ∙ f fuel (omega arith)

-- The call's refusal.

pub going_open : (g : Going) (b : Bench) → fits_going g b ≡ true → b.closed ≡ false
unfolding fits_going
going_open g b e = grind arith

no_refusal : (k : Kind) (g : Going) (fs : ℕ → List ℕ → ℕ) (b : Bench) → refusal k (Call.work_off g fs) b ≡ None → (fits_going g b ≡ true) × (any_out b.line ≡ false)
unfolding refusal fits own_refusal unless
no_refusal k g fs b e = go (fits_going g b) (any_out b.line) e
  where
    go : (x y : Bool) → cond {A = Option Refusal} x (unless (not y) Unsettled) (Some Foreign) ≡ None → (x ≡ true) × (y ≡ false)
    go true true e = cc
    go true false e = (refl, refl)
    go false y e = cc

granted_still : (k : Kind) (g : Going) (fs : ℕ → List ℕ → ℕ) (b b₁ : Bench) → b₁.run ≡ b.run → fits_going g b ≡ true → b₁.closed ≡ false → any_out b₁.line ≡ false → refusal k (Call.work_off g fs) b₁ ≡ None
unfolding refusal fits own_refusal unless fits_going
granted_still k g fs b b₁ e h z o =
    let own : eqb g.run b.run ≡ true = grind arith in
    rw (z, o, e, own)

pub turned_run : (k : Kind) (f : List ℕ → ℕ) (b : Bench) → (turned k f b).run ≡ b.run
unfolding turned
turned_run k f b = effect_run k (performed (chosen f (offer b))) (effect k (took (chosen f (offer b))) b) ∙ effect_run k (took (chosen f (offer b))) b

-- the refusal does not depend on the choices
call_is : (k : Kind) (g : Going) (fs hs : ℕ → List ℕ → ℕ) (b : Bench) (o : Option Refusal) → refusal k (Call.work_off g hs) b ≡ o → answer k (Call.work_off g fs) b ≡ answered o b (Answer.going g, worked_off k (left b.line) fs b)
unfolding answer refusal fits own_refusal granted
call_is k g fs hs b o e = ap (λ (r : Option Refusal). answered r b (Answer.going g, worked_off k (left b.line) fs b)) e

module _ (S : Type 0) (choice : S → List ℕ → ℕ) (next : S → List ℕ → S → Type 0) (chooses : (s : S) → Chooses (choice s)) (k : Kind) (law : Lawful k) (c : Card) (ls : Literals c) (n : ℕ) (b : Bench) (reached : Reached k c n b) where
  at_work : (g : Going) (s : S) → refusal k (Call.work_off g (λ i. choice s)) b ≡ None → AtWork k c n (serially_ends k c).0 b
  at_work g s e =
      let w = serially_ends k c in
      let h = no_refusal k g _ b e in
      record { holds = reached_holds k law c ls n w.0 b w.1 reached; reached = reached; going_on = going_open g b h.0; none_out = h.1 }

  works_granted : (g : Going) (s : S) → refusal k (Call.work_off g (λ i. choice s)) b ≡ None → Works k c n S choice next s b
  works_granted g s e =
      let r = (serially_ends k c).0 in
      let h = at_work g s e in
      record {
        ends = λ total. relation_ends k law c n r S choice next chooses total (left b.line) s b h (omega arith);
        leaves = λ s₁ b₁ d. let x = relation_rests k law c n r S choice next chooses d h in (record { settled_yet = x.settled_yet; none_out = x.kept.none_out }, x.kept.going_on, x.kept.reached);
      }

  turns_on : (g : Going) (s : S) → refusal k (Call.work_off g (λ i. choice s)) b ≡ None → settled b ≡ false → TurnsOn k c n g (λ i. choice s) b (turned k (choice s) b)
  turns_on g s e x =
      let r = (serially_ends k c).0 in
      let t = turn_of_work k law c n r (choice s) b (at_work g s e) x (chooses s) in
      record {
        falls = t.falls;
        goes_on = granted_still k g (λ i. choice s) b (turned k (choice s) b) (turned_run k (choice s) b) (no_refusal k g _ b e).0 t.going_on t.none_out;
        reached = (turn_keeps k law c n r (choice s) b (at_work g s e) t).reached;
      }

  is_call : (g : Going) (s : S) (a : Answer) (s₁ : S) (b₁ : Bench) → WorkOffAnswers k S choice next g s b a s₁ b₁ → IsCall k g b a b₁
  unfolding answered
  is_call g s a s₁ b₁ h = go (refusal k (Call.work_off g (λ i. choice s)) b) refl h
    where
      go : (o : Option Refusal) → refusal k (Call.work_off g (λ i. choice s)) b ≡ o → ByRefusal k S choice next o g s b a s₁ b₁ → IsCall k g b a b₁
      go (Some m) e w = ((λ i. choice s), (λ i. chooses s), call_is k g (λ i. choice s) (λ i. choice s) b (Some m) e ∙ ap₂ (λ (x : Answer) (y : Bench). (x, y)) (sym w.0) (sym w.2))
      go None e w =
          let x = relation_called k law c n (serially_ends k c).0 S choice next chooses w.1 (at_work g s e) in
          (x.0, x.1, call_is k g x.0 (λ i. choice s) b None e ∙ ap₂ (λ (x : Answer) (y : Bench). (x, y)) (sym w.0) (x.2 (left b.line) (omega arith)))

pub work_off_promise : (S : Type 0) (choice : S → List ℕ → ℕ) (next : S → List ℕ → S → Type 0) → ((s : S) → Chooses (choice s)) → WorkOffPromise S choice next
work_off_promise S choice next chooses k c law ls n b reached = record {
  works = works_granted S choice next chooses k law c ls n b reached;
  turns_on = turns_on S choice next chooses k law c ls n b reached;
  is_call = is_call S choice next chooses k law c ls n b reached;
}
