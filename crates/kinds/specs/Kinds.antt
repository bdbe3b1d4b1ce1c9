-- What a value kind means: five functions, and the laws that they keep for all words.
-- A word is a number below 2 ^ 32. A law asks nothing of numbers that are no words.
use Rattle.std.specs.Prelude.{◌≡◌, ℕ, ◌^◌, ◌<◌, Bool, ℤ, pos, neg_ℤ, ◌≤ℤ◌}

abbrev pub IsWord : ℕ → Type 0
IsWord w = w < 2 ^ 32

-- a literal is a whole number from -32768 to 32767
abbrev pub IsLiteral : ℤ → Type 0
IsLiteral z = (neg_ℤ (pos 32768) ≤ℤ z) × (z ≤ℤ pos 32767)

pub record Kind : Type 0 where
  pub literal : ℤ → ℕ
  pub add : ℕ → ℕ → ℕ
  pub join : ℕ → ℕ → ℕ
  pub less : ℕ → ℕ → Bool
  pub number : ℕ → ℤ

pub record Lawful (k : Kind) : Type 0 where
  -- joining b then c equals joining c then b
  pub exchange : (a b c : ℕ) → IsWord a → IsWord b → IsWord c → k.join (k.join a b) c ≡ k.join (k.join a c) b
  -- different words have different numbers
  pub distinct : (a b : ℕ) → IsWord a → IsWord b → k.number a ≡ k.number b → a ≡ b
  -- a literal is a word, and so are sums and joins of words
  pub literal_word : (z : ℤ) → IsLiteral z → IsWord (k.literal z)
  pub add_word : (a b : ℕ) → IsWord a → IsWord b → IsWord (k.add a b)
  pub join_word : (a b : ℕ) → IsWord a → IsWord b → IsWord (k.join a b)
  -- a word's number is from -2 ^ 32 to 2 ^ 32
  pub least : (a : ℕ) → IsWord a → neg_ℤ (pos (2 ^ 32)) ≤ℤ k.number a
  pub greatest : (a : ℕ) → IsWord a → k.number a ≤ℤ pos (2 ^ 32)
