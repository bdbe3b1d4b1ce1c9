-- What the named schedulers choose from a list of task numbers, and what a pick leaves.
use Rattle.std.specs.Prelude.{ℕ, zero, suc, ◌+◌, ◌-◌, ◌%◌, min, max, cond, List, [], ◌∷◌, length, take, Some, None, Option, ◌==◌, nat_lt}

-- what a pick answers: the choice, or absent for an empty list
abbrev pub picked : (List ℕ → ℕ) → List ℕ → Option ℕ
picked choose [] = None
picked choose (x ∷ xs) = Some (choose (x ∷ xs))

-- the first place
abbrev pub first : List ℕ → ℕ
first xs = 0

-- the last place
abbrev pub last : List ℕ → ℕ
last xs = length xs - 1

-- the earliest place of n, or the length if n is not there
abbrev pub place_of : ℕ → List ℕ → ℕ
place_of n [] = 0
place_of n (x ∷ xs) = cond (x == n) 0 (suc (place_of n xs))

-- one up, with 0 after 63
abbrev pub up : ℕ → ℕ
up k = (k + 1) % 64

-- the place of the first number met in counting so many up from k; place 0 if none is met
unfoldable pub met : ℕ → ℕ → List ℕ → ℕ
met zero k xs = 0
met (suc more) k xs = cond (nat_lt (place_of k xs) (length xs)) (place_of k xs) (met more (up k) xs)

-- the choice of turns at k
abbrev pub turns : ℕ → List ℕ → ℕ
turns k xs = met 64 k xs

-- k after a pick
abbrev pub turns_next : ℕ → List ℕ → ℕ
turns_next k [] = k
turns_next k (x ∷ xs) = up k

-- a width made at least 1 and at most 64
abbrev pub fit_width : ℕ → ℕ
fit_width w = max 1 (min w 64)

-- a choice from the first w of the list
abbrev pub narrow : ℕ → (List ℕ → ℕ) → List ℕ → ℕ
narrow w choose xs = choose (take w xs)
