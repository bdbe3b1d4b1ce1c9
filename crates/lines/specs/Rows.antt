-- Rows of numbered elements: what stands before, in the place of, or without the first element numbered n.
use Rattle.std.specs.Prelude.{ℕ, Bool, true, cond, not, ◌&&◌, List, [], ◌∷◌, ◌==◌, nat_lt}
use Rattle.runs.specs.declared.entry.Entry.{Entry}

-- the numbers of a task number and of an entry
abbrev pub itself : ℕ → ℕ
itself n = n

abbrev pub entry_number : Entry → ℕ
entry_number e = e.number

module _ {A : Type 0} (number : A → ℕ) where
  module _ (n : ℕ) where
    -- y before it, or at the end
    unfoldable pub put_before : A → List A → List A
    put_before y [] = y ∷ []
    put_before y (x ∷ xs) = cond (number x == n) (y ∷ x ∷ xs) (x ∷ put_before y xs)

    unfoldable pub without : List A → List A
    without [] = []
    without (x ∷ xs) = cond (number x == n) xs (x ∷ without xs)

    -- y in its place
    unfoldable pub revised : A → List A → List A
    revised y [] = []
    revised y (x ∷ xs) = cond (number x == n) (y ∷ xs) (x ∷ revised y xs)

    -- there is none
    unfoldable pub absent : List A → Bool
    absent [] = true
    absent (x ∷ xs) = not (number x == n) && absent xs

  -- each number stands in one place
  unfoldable pub apart : List A → Bool
  apart [] = true
  apart (x ∷ xs) = absent (number x) xs && apart xs

-- each number is below k
unfoldable pub below : ℕ → List ℕ → Bool
below k [] = true
below k (n ∷ ns) = nat_lt n k && below k ns
