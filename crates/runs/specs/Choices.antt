-- A scheduler's choice from a list of task numbers.
use Rattle.std.specs.Prelude.{ℕ, ◌<◌, List, ◌∷◌, length, slice_index}

-- the law: from a list that is not empty it chooses a place in that list
abbrev pub Chooses : (List ℕ → ℕ) → Type 0
Chooses f = (x : ℕ) (xs : List ℕ) → f (x ∷ xs) < length (x ∷ xs)

-- the number at the chosen place
abbrev pub chosen : (List ℕ → ℕ) → List ℕ → ℕ
chosen f xs = slice_index xs (f xs)
