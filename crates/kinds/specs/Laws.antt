-- The laws of tally and flags.
use Rattle.std.specs.Prelude.{◌≡◌, ℕ, ◌+◌, ◌*◌, ◌/◌, ◌%◌, ◌^◌, max, ℤ, pos, negsuc, neg_ℤ, ◌≤ℤ◌, bit_or}
use Rattle.std.proofs.Common.{sym, ap, ◌∙◌, arith, of_z}
use Rattle.std.specs.Int.Bits.{or_step}
use Rattle.std.proofs.lemmas.Nat.{or_comm, or_lt, or_shr, xor_lt}
use Rattle.std.proofs.Math.Arith.{bin_ind}
use Rattle.std.specs.Int.{w32}
use Rattle.std.proofs.lemmas.Int.{ints, of_z-to_z}
use Rattle.kinds.specs.Kinds.{IsWord, Lawful}
use Rattle.kinds.specs.Values.{pattern, sum, signed, tally, flags}

pattern_word : (z : ℤ) → IsWord (pattern z)
pattern_word (pos n) = omega arith
pattern_word (negsuc n) = omega arith

sum_exchange : (a b c : ℕ) → sum (sum a b) c ≡ sum (sum a c) b
sum_exchange a b c = omega arith

signed_least : (a : ℕ) → IsWord a → neg_ℤ (pos (2 ^ 32)) ≤ℤ signed a
signed_least a h = omega (arith, ints)

signed_greatest : (a : ℕ) → IsWord a → signed a ≤ℤ pos (2 ^ 32)
signed_greatest a h = omega (arith, ints)

signed_distinct : (a b : ℕ) → IsWord a → IsWord b → signed a ≡ signed b → a ≡ b
signed_distinct a b h g e = sym (of_z-to_z w32 a h) ∙ ap (of_z w32) e ∙ of_z-to_z w32 b g

pub tally_lawful : Lawful tally
tally_lawful = record {
  exchange = λ a b c h g f. sum_exchange a b c;
  distinct = signed_distinct;
  literal_word = λ z h. pattern_word z;
  add_word = λ a b h g. omega arith;
  join_word = λ a b h g. omega arith;
  least = signed_least;
  greatest = signed_greatest;
}

-- The union of two sets of bits, by halves.

or_bit : (a b : ℕ) → bit_or a b % 2 ≡ max (a % 2) (b % 2)
or_bit a b = omega (arith, or_step a b)

or_twice : (a b c : ℕ) → bit_or (bit_or a b) c ≡ bit_or (bit_or (a / 2) (b / 2)) (c / 2) * 2 + max (max (a % 2) (b % 2)) (c % 2)
or_twice a b c = or_step (bit_or a b) c ∙ ap (λ (x : ℕ). bit_or x (c / 2) * 2 + max (bit_or a b % 2) (c % 2)) (or_shr a b 1) ∙ ap (λ (x : ℕ). bit_or (bit_or (a / 2) (b / 2)) (c / 2) * 2 + max x (c % 2)) (or_bit a b)

or_exchange : (a b c : ℕ) → bit_or (bit_or a b) c ≡ bit_or (bit_or a c) b
or_exchange = bin_ind (λ (a : ℕ). (b c : ℕ) → bit_or (bit_or a b) c ≡ bit_or (bit_or a c) b) (λ b c. or_comm b c) (λ a half b c. omega (arith, or_twice a b c, or_twice a c b, half (b / 2) (c / 2)))

pos_least : (a : ℕ) → neg_ℤ (pos (2 ^ 32)) ≤ℤ pos a
pos_least a = omega (arith, ints)

pos_greatest : (a : ℕ) → IsWord a → pos a ≤ℤ pos (2 ^ 32)
pos_greatest a h = omega (arith, ints)

pos_distinct : (a b : ℕ) → pos a ≡ pos b → a ≡ b
pos_distinct a b e = cc

pub flags_lawful : Lawful flags
flags_lawful = record {
  exchange = λ a b c h g f. or_exchange a b c;
  distinct = λ a b h g. pos_distinct a b;
  literal_word = λ z h. pattern_word z;
  add_word = λ a b h g. xor_lt 32 a b h g;
  join_word = λ a b h g. or_lt 32 a b h g;
  least = λ a h. pos_least a;
  greatest = pos_greatest;
}
