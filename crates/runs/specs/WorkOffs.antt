-- Working off under a scheduler whose states are its own.
-- In a state of S, choice is what it chooses, and next says which states may follow a pick from a list.
use Rattle.std.specs.Prelude.{◌≡◌, ℕ, true, false, List, Some, None, Option}
use Rattle.kinds.specs.Kinds.{Kind}
use Rattle.runs.specs.Benches.{Bench, offer, settled}
use Rattle.runs.specs.Refusals.{Refusal}
use Rattle.runs.specs.Calls.{Going, work_off, Answer, refused, going}
use Rattle.runs.specs.Tests.{refusal}
use Rattle.runs.specs.Answers.{turned}

-- a granted work-off: each turn is taken by the choice of the state come to, until the bench is settled
pub data WorksOff (k : Kind) (S : Type 0) (choice : S → List ℕ → ℕ) (next : S → List ℕ → S → Type 0) : S → Bench → S → Bench → Type 0 where
  rests : {s : S} {b : Bench} → settled b ≡ true → WorksOff k S choice next s b s b
  works : {s s₁ s₂ : S} {b b₂ : Bench} → settled b ≡ false → next s (offer b) s₁ → WorksOff k S choice next s₁ (turned k (choice s) b) s₂ b₂ → WorksOff k S choice next s b s₂ b₂

-- what a work-off from state s answers, and the state and the bench that it leaves
abbrev pub ByRefusal : (k : Kind) (S : Type 0) → (S → List ℕ → ℕ) → (S → List ℕ → S → Type 0) → Option Refusal → Going → S → Bench → Answer → S → Bench → Type 0
ByRefusal k S choice next (Some r) g s b a s₁ b₁ = (a ≡ refused r) × (s₁ ≡ s) × (b₁ ≡ b)
ByRefusal k S choice next None g s b a s₁ b₁ = (a ≡ going g) × WorksOff k S choice next s b s₁ b₁

abbrev pub WorkOffAnswers : (k : Kind) (S : Type 0) → (S → List ℕ → ℕ) → (S → List ℕ → S → Type 0) → Going → S → Bench → Answer → S → Bench → Type 0
WorkOffAnswers k S choice next g s b a s₁ b₁ = ByRefusal k S choice next (refusal k (work_off g (λ i. choice s)) b) g s b a s₁ b₁
