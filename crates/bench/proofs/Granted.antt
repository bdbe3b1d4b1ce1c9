-- Calls that must be granted.
use Rattle.std.proofs.Common.{◌≡◌, ℕ, true, false, List, is_ok, Ok, Err, Result, sym, refl, ap, ◌∙◌, subst, arith, None, Option}
use Rattle.std.proofs.lemmas.Bool.{and_from, eq-eqb, not_from_false}
use Rattle.kinds.specs.Kinds.{Kind}
use Rattle.cards.specs.Code.{Card}
use Rattle.runs.specs.declared.refusal.Refusal.{Refusal}
use Rattle.runs.specs.declared.refusal.Refusal.TheVariants.{Unsettled}
use Rattle.runs.specs.Lines.{any_out, is_out, member}
use Rattle.runs.specs.Benches as Model
use Rattle.runs.specs.Benches.{bench, opened, settled}
use Rattle.runs.specs.Events.{can_close}
use Rattle.runs.specs.Calls.{going_state, work_off, close, Answer}
use Rattle.runs.specs.Tests.{fits_going, fits, own_refusal}
use Rattle.runs.specs.Answers.{granted}
use Rattle.runs.specs.WorkOffs.{ByRefusal}
use Rattle.runs.specs.Promise.{Rests}
use Rattle.runs.proofs.Refusals.{answer_granted}
use Rattle.bench.specs.declared.bench.Bench.{Bench}
use Rattle.bench.specs.declared.tokens.Going.{Going}
use Rattle.bench.specs.declared.tokens.Closed.{Closed}
use Rattle.bench.specs.declared.answers.Refused.{Refused}
use Rattle.bench.specs.Views.{bench_of, going_of, closed_of, answer_of}
use Rattle.bench.specs.Ends.{WorksAll, Closes}
use Rattle.bench.proofs.Calls.{own_refusal_is, unless_true}

opened_fits : (k : Kind) (c : Card) (r : ℕ) → fits_going (going_state r) (opened k c r) ≡ true
unfolding opened bench fits_going
opened_fits k c r = and_from _ _ (eq-eqb r r refl) refl

none_out_opened : (k : Kind) (c : Card) (r : ℕ) → any_out (opened k c r).line ≡ false
unfolding opened bench any_out member is_out
none_out_opened k c r = refl

-- an answer that is no refusal
not_refused : {A T : Type 0} (f : A → Answer) (r : Result A (Refused T)) → ((x : Refusal) → answer_of f r ≡ Answer.refused x → ⊥) → is_ok r ≡ true
not_refused f (Ok x) h = refl
not_refused f (Err e) h = absurd (h e.refusal refl)

-- a card that was just opened can be worked off
pub work_off_ok : {K S : Type 0} {k : Kind} {choice : S → List ℕ → ℕ} {next : S → List ℕ → S → Type 0} {g : Going} {s s' : S} {b b' : Bench K} {r : Result Going (Refused Going)} (c : Card) (i : ℕ) → bench_of b ≡ opened k c i → going_of g ≡ going_state i → WorksAll k choice next g s b r s' b' → is_ok r ≡ true
unfolding fits own_refusal
work_off_ok {S = S} {k = k} {choice = choice} {next = next} {g = g} {s = s} {s' = s'} {b = b} {b' = b'} {r = r} c i e d w =
    let fit : fits_going (going_of g) (bench_of b) ≡ true = ap (λ h. fits_going h (bench_of b)) d ∙ ap (fits_going (going_state i)) e ∙ opened_fits k c i in
    let out : any_out (bench_of b).line ≡ false = ap (λ (v : Model.Bench). any_out v.line) e ∙ none_out_opened k c i in
    let o = own_refusal_is k (work_off (going_of g) (λ j. choice s)) (bench_of b) None fit (unless_true _ Unsettled (not_from_false _ out)) in
    let a = subst (λ (x : Option Refusal). ByRefusal k S choice next x (going_of g) s (bench_of b) (answer_of (λ h. Answer.going (going_of h)) r) s' (bench_of b')) o w.answers in
    not_refused (λ h. Answer.going (going_of h)) r (λ x q. let p = a.0 in let z : ◌≡◌ {A = ℕ} 0 1 = cc in omega arith)

-- a run that can close is closed
pub close_ok : {K : Type 0} {k : Kind} {g : Going} {b b' : Bench K} {r : Result Closed (Refused Going)} → fits_going (going_of g) (bench_of b) ≡ true → Rests (bench_of b) → Closes k g b r b' → is_ok r ≡ true
unfolding fits own_refusal granted can_close
close_ok {k = k} {g = g} {b = b} {r = r} fit h c =
    let a = answer_granted k (bench_of b) (close (going_of g)) fit (unless_true _ Unsettled (and_from _ _ h.settled_yet (not_from_false _ h.none_out))) in
    let same = ap (λ (x : Answer × Model.Bench). x.0) (sym c.answers ∙ a) in
    not_refused (λ z. Answer.closed (closed_of z)) r (λ x q. let z : ◌≡◌ {A = ℕ} 0 1 = cc in omega arith)
