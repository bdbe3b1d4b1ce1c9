-- A pick from what is offered.
use Rattle.std.proofs.Common.{◌≡◌, ℕ, ◌<◌, true, false, List, [], ◌∷◌, length, is_some, Some, refl, ap, ⊎_elim, arith, None}
use Rattle.std.proofs.lemmas.Bool.{both_ways}
use Rattle.schedulers.specs.Schedulers.{picked}
use Rattle.runs.specs.declared.refusal.Refusal.TheVariants.{NothingToOffer}
use Rattle.runs.specs.Lines.{any_out}
use Rattle.runs.specs.Benches.{Bench, offer, settled}
use Rattle.runs.specs.Choices.{Chooses}
use Rattle.runs.specs.Tests.{unless, not_empty}
use Rattle.runs.proofs.Reached.{first_offered}

-- with nothing to offer the run is settled, or a turn is out
pub nothing_settles : {X : Type 0} (b : Bench) → offer b ≡ [] → settled b ≡ false → any_out b.line ≡ false → X
unfolding offer settled
nothing_settles b e s o = ⊎_elim (λ p. absurd (both_ways (any_out b.line) o p)) (λ p. absurd (p e)) (first_offered b.line s)

pub unsettled_offers : (b : Bench) → settled b ≡ false → any_out b.line ≡ false → 0 < length (offer b)
unsettled_offers b s o = go (offer b) (λ e. nothing_settles b e s o)
  where
    go : (ns : List ℕ) → (ns ≡ [] → ⊥) → 0 < length ns
    go [] h = absurd (h refl)
    go (n ∷ ns) h = omega arith

pub refuses_nothing : (ns : List ℕ) → ns ≡ [] → unless (not_empty ns) NothingToOffer ≡ Some NothingToOffer
unfolding unless not_empty
refuses_nothing ns e = ap (λ (l : List ℕ). unless (not_empty l) NothingToOffer) e

pub grants_some : (ns : List ℕ) → 0 < length ns → unless (not_empty ns) NothingToOffer ≡ None
unfolding unless not_empty
grants_some [] h = absurd (omega arith)
grants_some (n ∷ ns) h = refl

-- The choice from a list that is not empty.

picks : (f : List ℕ → ℕ) (ns : List ℕ) → 0 < length ns → picked f ns ≡ Some (f ns)
picks f [] h = absurd (omega arith)
picks f (n ∷ ns) h = refl

pub chosen_below : (f : List ℕ → ℕ) → Chooses f → (ns : List ℕ) → 0 < length ns → f ns < length ns
chosen_below f l [] h = absurd (omega arith)
chosen_below f l (n ∷ ns) h = l n ns

module _ (f : List ℕ → ℕ) (ns : List ℕ) (more : 0 < length ns) where
  pub picks_some : is_some (picked f ns) ≡ true
  picks_some = ap is_some (picks f ns more)

  pub place_is : (place : ℕ) → picked f ns ≡ Some place → place ≡ f ns
  place_is place is = let e = picks f ns more in cc

  pub place_below : Chooses f → (place : ℕ) → picked f ns ≡ Some place → place < length ns
  place_below law place is = omega (arith, place_is place is, chosen_below f law ns more)
