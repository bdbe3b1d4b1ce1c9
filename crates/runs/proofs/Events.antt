-- When an event is granted, and what it then does.
use Rattle.std.proofs.Common.{◌≡◌, ℕ, Bool, true, false, cond, not, ◌&&◌, List, [], ◌∷◌, ◌++◌, Some, None, Option, option_and_then, refl, ap, ◌∙◌, arith}
use Rattle.std.specs.Option.{option_map_or}
use Rattle.std.proofs.lemmas.Bool.{not-true, and_parts}
use Rattle.kinds.specs.Kinds.{Kind}
use Rattle.cards.specs.Code.{Card}
use Rattle.runs.specs.Lines.{Status, Member, find}
use Rattle.runs.specs.Benches.{Bench, opened}
use Rattle.runs.specs.Steps.{marked, step, put, advanced}
use Rattle.runs.specs.Events.{Event, grants, effect, apply, replay}
use Rattle.runs.specs.Promise.{Reached}

-- A number that is found.

-- a test holds of task n: then there is one
pub test_found : (n : ℕ) (line : List Member) (p : Member → Bool) → option_map_or p (find n line) false ≡ true → (s : Member) × (find n line ≡ Some s) × (p s ≡ true)
test_found n line p e = go (find n line) refl e
  where
    go : (o : Option Member) → find n line ≡ o → option_map_or p o false ≡ true → (s : Member) × (find n line ≡ Some s) × (p s ≡ true)
    go None q e = cc
    go (Some s) q e = (s, q, e)

pub found_test : (n : ℕ) (line : List Member) (p : Member → Bool) (s : Member) → find n line ≡ Some s → p s ≡ true → option_map_or p (find n line) false ≡ true
found_test n line p s e h = rw e h

pub put_found : (n : ℕ) (u : Status) (b : Bench) (s : Member) → find n b.line ≡ Some s → put n u b ≡ marked b s u
unfolding put
put_found n u b s e = rw e

pub advanced_found : (k : Kind) (n : ℕ) (b : Bench) (s : Member) → find n b.line ≡ Some s → advanced k n b ≡ step k b s
unfolding advanced
advanced_found k n b s e = rw e

-- One event.

pub record Applied (k : Kind) (e : Event) (b b₁ : Bench) : Type 0 where
  pub going_on : b.closed ≡ false
  pub allowed : grants e b ≡ true
  pub makes : effect k e b ≡ b₁

pub apply_some : (k : Kind) (e : Event) (b b₁ : Bench) → apply k e b ≡ Some b₁ → Applied k e b b₁
unfolding apply
apply_some k e b b₁ q = go (not b.closed && grants e b) refl q
  where
    go : (x : Bool) → (not b.closed && grants e b) ≡ x → cond x (Some (effect k e b)) None ≡ Some b₁ → Applied k e b b₁
    go true p g = let w = and_parts (not b.closed) (grants e b) p in record { going_on = not-true _ w.0; allowed = w.1; makes = cc }
    go false p g = cc

pub apply_granted : (k : Kind) (e : Event) (b : Bench) → b.closed ≡ false → grants e b ≡ true → apply k e b ≡ Some (effect k e b)
unfolding apply
apply_granted k e b z g = grind arith

-- More events.

pub replay_first : (k : Kind) (e : Event) (es : List Event) (b b₁ : Bench) → replay k (e ∷ es) b ≡ Some b₁ → (b₂ : Bench) × (apply k e b ≡ Some b₂) × (replay k es b₂ ≡ Some b₁)
unfolding replay
replay_first k e es b b₁ q = go (apply k e b) refl q
  where
    go : (o : Option Bench) → apply k e b ≡ o → option_and_then (replay k es) o ≡ Some b₁ → (b₂ : Bench) × (apply k e b ≡ Some b₂) × (replay k es b₂ ≡ Some b₁)
    go None p g = cc
    go (Some b₂) p g = (b₂, p, g)

replay_next : (k : Kind) (e : Event) (es : List Event) (b b₁ : Bench) → apply k e b ≡ Some b₁ → replay k (e ∷ es) b ≡ replay k es b₁
unfolding replay
replay_next k e es b b₁ p = rw p

replay_append : (k : Kind) (es fs : List Event) (b b₁ : Bench) → replay k es b ≡ Some b₁ → replay k (es ++ fs) b ≡ replay k fs b₁
unfolding replay
replay_append k [] fs b b₁ e = let p : b ≡ b₁ = cc in ap (replay k fs) p
replay_append k (x ∷ es) fs b b₁ e =
    let g = replay_first k x es b b₁ e in
    replay_next k x (es ++ fs) b g.0 g.1 ∙ replay_append k es fs g.0 b₁ g.2

pub reached_opened : (k : Kind) (c : Card) (n : ℕ) → Reached k c n (opened k c n)
unfolding replay
reached_opened k c n = ([], refl)

-- one more granted event
pub reached_event : (k : Kind) (c : Card) (n : ℕ) (e : Event) (b b₁ : Bench) → Reached k c n b → apply k e b ≡ Some b₁ → Reached k c n b₁
unfolding replay
reached_event k c n e b b₁ h p = (h.0 ++ (e ∷ []), replay_append k h.0 (e ∷ []) (opened k c n) b h.1 ∙ replay_next k e [] b b₁ p)
