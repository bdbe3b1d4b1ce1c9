-- Decimal numbers: no plus, no leading zero, no `-0`.
use Rattle.std.specs.Prelude.{ℕ, ◌+◌, ◌-◌, ◌*◌, cond, ◌&&◌, List, [], ◌∷◌, drop, ℤ, pos, neg_ℤ, Some, None, Option, ◌==◌, nat_le, slice_index}

-- the number that the digits s write after those of n, if it stays within max
unfoldable pub reads : ℕ → ℕ → List ℕ → Option ℕ
reads max n [] = Some n
reads max n (b ∷ bs) = cond (nat_le 48 b && nat_le b 57 && nat_le (10 * n + (b - 48)) max) (reads max (10 * n + (b - 48)) bs) None

-- a number of at most max
unfoldable pub number : ℕ → List ℕ → Option ℕ
number max [] = None
number max (b ∷ []) = reads max 0 (b ∷ [])
number max (b ∷ c ∷ bs) = cond (b == 48) None (reads max 0 (b ∷ c ∷ bs))

-- a number from min to max
abbrev pub not_below : ℕ → Option ℕ → Option ℕ
not_below min None = None
not_below min (Some n) = cond (nat_le min n) (Some n) None

abbrev pub mapped : (ℕ → ℤ) → Option ℕ → Option ℤ
mapped f None = None
mapped f (Some n) = Some (f n)

abbrev pub negated : Option ℕ → Option ℤ
negated None = None
negated (Some n) = cond (n == 0) None (Some (neg_ℤ (pos n)))

-- a whole number from -32768 to 32767; a minus stands before a number from 1
abbrev pub literal : List ℕ → Option ℤ
literal s = cond (slice_index s 0 == 45) (negated (number 32768 (drop 1 s))) (mapped pos (number 32767 s))
