-- A text cut at the first of a byte.
use Rattle.std.specs.Prelude.{ℕ, ◌+◌, Bool, not, List, length, take, drop, ◌==◌, nat_lt}
use Rattle.std.specs.List.{prefix_len}

-- how many bytes stand before the first mark
abbrev pub upto : ℕ → List ℕ → ℕ
upto mark s = prefix_len (λ b. not (b == mark)) s

abbrev pub has : ℕ → List ℕ → Bool
has mark s = nat_lt (upto mark s) (length s)

abbrev pub before : ℕ → List ℕ → List ℕ
before mark s = take (upto mark s) s

abbrev pub after : ℕ → List ℕ → List ℕ
after mark s = drop (upto mark s + 1) s
