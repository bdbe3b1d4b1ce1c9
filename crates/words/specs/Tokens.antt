-- The words of a line, which single spaces part. An empty line is one empty word.
use Rattle.std.specs.Prelude.{ℕ, cond, List, [], ◌∷◌, Some, None, Option, ◌==◌}
use Rattle.std.specs.Borrow.{Bor}
use Rattle.words.specs.declared.tokens.Place.{Place}
use Rattle.words.specs.declared.tokens.Token.{Token}
use Rattle.words.specs.declared.tokens.Token.TheVariants.{Word, Absent}

-- b put in front of the first word
abbrev pub onto : ℕ → List (List ℕ) → List (List ℕ)
onto b [] = (b ∷ []) ∷ []
onto b (w ∷ ws) = (b ∷ w) ∷ ws

abbrev pub words : List ℕ → List (List ℕ)
words [] = [] ∷ []
words (b ∷ bs) = cond (b == 32) ([] ∷ words bs) (onto b (words bs))

-- what stands at a place of a line: a word's bytes, or no word
pub data Seen : Type 0 where
  word : List ℕ → Place → Seen
  absent : Place → Seen

abbrev pub seen : Token → Seen
seen (Word b p) = word b.now p
seen (Absent p) = absent p

-- word w of line l
abbrev pub place : ℕ → ℕ → Place
place l w = record { line = l; word = w }

abbrev pub first_of : List (List ℕ) → Place → Seen
first_of [] p = absent p
first_of (w ∷ ws) p = word w p

abbrev pub others : List (List ℕ) → List (List ℕ)
others [] = []
others (w ∷ ws) = ws

-- the first four places of a line: no line of a card has more than three words
abbrev pub first : List (List ℕ) → ℕ → Seen
first ws l = first_of ws (place l 1)

abbrev pub second : List (List ℕ) → ℕ → Seen
second ws l = first_of (others ws) (place l 2)

abbrev pub third : List (List ℕ) → ℕ → Seen
third ws l = first_of (others (others ws)) (place l 3)

abbrev pub fourth : List (List ℕ) → ℕ → Seen
fourth ws l = first_of (others (others (others ws))) (place l 4)

-- the words of what is left of a line, if anything is
abbrev pub left : Option (Bor (List ℕ)) → List (List ℕ)
left None = []
left (Some r) = words r.now
