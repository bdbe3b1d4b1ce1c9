-- A choice from the front of a list. Assumes nothing.
use Rattle.std.specs.Prelude.{◌≡◌, ℕ, zero, suc, ◌<◌, ◌≤◌, min, List, [], ◌∷◌, length, take, refl}
use Rattle.std.proofs.Common.{ap, ◌∙◌, arith, length-take}
use Rattle.std.proofs.lemmas.List as Lists
use Rattle.schedulers.specs.Schedulers.{picked, narrow}

-- a place in the front is a place in the list
pub narrow_inside : (choose : List ℕ → ℕ) (w x : ℕ) (xs : List ℕ) → ((y : ℕ) (ys : List ℕ) → choose (y ∷ ys) < length (y ∷ ys)) → 1 ≤ w → narrow w choose (x ∷ xs) < length (x ∷ xs)
narrow_inside choose zero x xs inside some = absurd (omega arith)
narrow_inside choose (suc w) x xs inside some = omega (arith, inside x (take w xs), length-take w xs)

-- the front is empty only if the list is
pub picked_front : (choose : List ℕ → ℕ) (w : ℕ) (xs : List ℕ) → 1 ≤ w → picked choose (take w xs) ≡ picked (narrow w choose) xs
picked_front choose zero xs some = absurd (omega arith)
picked_front choose (suc w) [] some = refl
picked_front choose (suc w) (x ∷ xs) some = refl

-- a front cut at the list's length
pub take_min : (w : ℕ) (xs : List ℕ) (e : ℕ) → e ≡ min (length xs) w → take e xs ≡ take w xs
take_min w xs e is = ap (λ (i : ℕ). take i xs) (omega arith) ∙ Lists.take_min w xs
