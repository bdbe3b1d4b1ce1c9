-- The card that a value of the card type stands for, and what making one answers.
use Rattle.std.specs.Prelude.{◌≡◌, cond, ◌||◌, [], ◌∷◌, length, pos, Some, None, Ok, Err, vec_items, Option, Result, ◌==◌, nat_lt}
use Rattle.cards.specs.Code as Code
use Rattle.cards.specs.Bounds.{line_count, depth, object_bound, card_tasks, card_steps}
use Rattle.cards.specs.Trees.{block_of}
use Rattle.cards.specs.declared.lines.KindName.TheVariants.{Tally}
use Rattle.cards.specs.declared.lines.OrderName.TheVariants.{First}
use Rattle.cards.specs.declared.card.Card.{Card}
use Rattle.cards.specs.declared.make.Limit.{Limit}
use Rattle.cards.specs.declared.make.Limit.TheVariants.{Objects, Lines, Depth, Pointed, Tasks, Steps}

abbrev pub card_of : Card → Code.Card
card_of c = record { kind = c.kind; order = c.order; words = vec_items c.words; body = block_of c.body }

-- the card of a new slot: tally, first, one object 0, no lines
abbrev pub blank : Code.Card
blank = record { kind = Tally; order = First; words = pos 0 ∷ []; body = Code.end }

-- the first limit that a card breaks
abbrev pub broken : Code.Card → Option Limit
broken c =
    cond (length c.words == 0 || nat_lt 16 (length c.words)) (Some Objects)
    (cond (nat_lt 256 (line_count c.body)) (Some Lines)
    (cond (nat_lt 8 (depth c.body)) (Some Depth)
    (cond (nat_lt (length c.words) (object_bound c.body)) (Some Pointed)
    (cond (nat_lt 64 (card_tasks c)) (Some Tasks)
    (cond (nat_lt 1_000_000 (card_steps c)) (Some Steps) None)))))

-- what making the card c answers
abbrev pub Makes : Code.Card → Result Card Limit → Type 0
Makes c (Ok k) = (broken c ≡ None) × (card_of k ≡ c)
Makes c (Err l) = broken c ≡ Some l
