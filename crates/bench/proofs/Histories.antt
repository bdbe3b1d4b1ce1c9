-- Each call leads on from whatever led to its bench, and what is promised of every such bench.
use Rattle.std.proofs.Common.{◌≡◌, ℕ, true, List, [], ◌∷◌, ◌++◌, refl, ap, ◌∙◌, subst}
use Rattle.kinds.specs.Kinds.{Kind, Lawful}
use Rattle.cards.specs.Code.{Card}
use Rattle.cards.specs.Literals.{Literals}
use Rattle.runs.specs.Benches.{Bench, settled}
use Rattle.runs.specs.Calls.{Going, Call, work_off, Answer, LawfulCall, LawfulCalls}
use Rattle.runs.specs.Choices.{Chooses}
use Rattle.runs.specs.WorkOffs.{WorkOffAnswers}
use Rattle.runs.specs.Answers.{answer, after_calls}
use Rattle.runs.specs.Promise.{Kept}
use Rattle.runs.proofs.WorkOffs.{work_off_promise}
use Rattle.runs.proofs.Promised.{whole_promise}
use Rattle.bench.specs.Histories.{History, LeadsOn, Promises}
use Rattle.bench.specs.Ends.{AgreesAlways}

after_last : (k : Kind) (xs : List Call) (x : Call) (b : Bench) → after_calls k (xs ++ x ∷ []) b ≡ (answer k x (after_calls k xs b)).1
unfolding after_calls
after_last k [] x b = refl
after_last k (y ∷ ys) x b = after_last k ys x (answer k y b).1

lawful_last : (xs : List Call) (x : Call) → LawfulCalls xs → LawfulCall x → LawfulCalls (xs ++ x ∷ [])
lawful_last [] x hs h = (h, tt)
lawful_last (y ∷ ys) x hs h = (hs.0, lawful_last ys x hs.1 h)

pub call_leads_on : (k : Kind) (x : Call) (b b' : Bench) → LawfulCall x → (answer k x b).1 ≡ b' → LeadsOn k b b'
call_leads_on k x b b' l e c r h = record {
  literals = h.literals;
  calls = h.calls ++ x ∷ [];
  lawful = lawful_last h.calls x h.lawful l;
  leads = after_last k h.calls x _ ∙ ap (λ (v : Bench). (answer k x v).1) h.leads ∙ e;
}

pub promises : (k : Kind) (c : Card) (r : ℕ) → Lawful k → Literals c → Promises k c r
promises k c r law ls = let w = whole_promise k c in record { serial = w.0; refuses = w.1; calls = w.2 law ls r }

pub history_kept : (k : Kind) (c : Card) (r : ℕ) (b : Bench) → Lawful k → History k c r b → Kept k c r b
history_kept k c r b law h = subst (Kept k c r) h.leads ((whole_promise k c).2 law h.literals r h.calls h.lawful).kept

pub work_off_leads_on : (k : Kind) → Lawful k → (S : Type 0) (choice : S → List ℕ → ℕ) (next : S → List ℕ → S → Type 0) → ((s : S) → Chooses (choice s)) → (g : Going) (s s' : S) (b b' : Bench) (a : Answer) → WorkOffAnswers k S choice next g s b a s' b' → LeadsOn k b b'
work_off_leads_on k law S choice next chooses g s s' b b' a w c r h =
    let called = (work_off_promise S choice next chooses k c law h.literals r b (history_kept k c r b law h).reached).is_call g s a s' b' w in
    call_leads_on k (work_off g called.0) b b' called.1 (ap (λ (x : Answer × Bench). x.1) called.2) c r h

-- a bench that is settled agrees with serial working, whatever led to it
pub settled_agrees : (k : Kind) → Lawful k → (b : Bench) → settled b ≡ true → AgreesAlways k b
settled_agrees k law b e c r h = (history_kept k c r b law h).agrees e
