-- The two kinds that a card can name.
use Rattle.std.specs.Prelude.{ℕ, suc, ◌+◌, ◌-◌, ◌%◌, ◌^◌, Bool, not, ◌&&◌, ℤ, pos, negsuc, ◌==◌, bit_and, int_lt}
use Rattle.std.specs.Int.Bits.{bit_or, bit_xor}
use Rattle.std.specs.Int.{w32}
use Rattle.std.proofs.Common.{to_z}
use Rattle.kinds.specs.Kinds.{Kind}

-- the 32 bits of a whole number in two's complement
abbrev pub pattern : ℤ → ℕ
pattern (pos n) = n % 2 ^ 32
pattern (negsuc n) = 2 ^ 32 - suc (n % 2 ^ 32)

-- the sum modulo 2 ^ 32
abbrev pub sum : ℕ → ℕ → ℕ
sum a b = (a + b) % 2 ^ 32

-- a word read as a signed number
abbrev pub signed : ℕ → ℤ
signed a = to_z w32 a

abbrev pub signed_less : ℕ → ℕ → Bool
signed_less a b = int_lt (signed a) (signed b)

-- the bits of a are among those of b, and the two differ
abbrev pub strict_subset : ℕ → ℕ → Bool
strict_subset a b = bit_and a b == a && not (a == b)

-- two's complement: add and join are the sum, less and number are signed
abbrev pub tally : Kind
tally = record { literal = pattern; add = sum; join = sum; less = signed_less; number = signed }

-- a set of 32 bits: add is exclusive or, join is union, less is strict subset, the number is unsigned
abbrev pub flags : Kind
flags = record { literal = pattern; add = bit_xor; join = bit_or; less = strict_subset; number = pos }
