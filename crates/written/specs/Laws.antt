-- A text and its card determine each other, and a refusal names the first offence.
use Rattle.std.specs.Prelude.{◌≡◌, ℕ, ◌<◌, ◌≤◌, List, length, Ok, Err, Result}
use Rattle.cards.specs.Code.{Card}
use Rattle.cards.specs.Bounds.{card_tasks, card_steps}
use Rattle.loading.specs.declared.refusal.LoadRefusal.{LoadRefusal}
use Rattle.loading.specs.declared.refusal.LoadRefusal.TheVariants.{TooLong, Line, TooManyTasks, TooManySteps, Memory}
use Rattle.loading.specs.declared.slot.Slot.{Slot}
use Rattle.loading.specs.Loading.{reading, accepted, refused, held_card}
use Rattle.written.specs.Written.{card_text}
use Rattle.written.specs.Formed.{WellFormed}
use Rattle.written.specs.Offences.{text_fault}
use Rattle.written.specs.First.{FirstOffence}

-- the text s is the written form of the card c, which is well-formed
pub record Writes (s : List ℕ) (c : Card) : Type 0 where
  pub text : s ≡ card_text c
  pub formed : WellFormed c

-- no line of s is at fault, and the card that it writes is as P says
abbrev pub ButFor : (Card → Type 0) → List ℕ → Type 0
ButFor P s = (text_fault s ≡ Ok tt) × ((c : Card) × (s ≡ card_text c) × P c)

-- what is wrong with s: its length, a line, or a bound of the card that it writes
abbrev pub Offence : List ℕ → LoadRefusal → Type 0
Offence s TooLong = 16_384 < length s
Offence s (Line e) = FirstOffence s e
Offence s TooManyTasks = ButFor (λ c. 64 < card_tasks c) s
Offence s TooManySteps = ButFor (λ c. (card_tasks c ≤ 64) × (1_000_000 < card_steps c)) s
Offence s Memory = ⊥

-- s writes no card, and e says why
pub record NoCard (s : List ℕ) (e : LoadRefusal) : Type 0 where
  pub none : (c : Card) → Writes s c → ⊥
  pub offence : Offence s e

-- a text is accepted as a card just where it is its written form; no two texts are accepted as one card
pub record Laws : Type 0 where
  pub back : (s : List ℕ) (c : Card) → reading s ≡ accepted c → Writes s c
  pub forth : (c : Card) → WellFormed c → reading (card_text c) ≡ accepted c
  pub one_text : (s t : List ℕ) (c : Card) → reading s ≡ accepted c → reading t ≡ accepted c → s ≡ t
  pub refusal : (s : List ℕ) (e : LoadRefusal) → reading s ≡ refused e → NoCard s e

-- what a load of the text s answers, where the slot t holds a card afterwards; want of memory says nothing of the text
abbrev pub Answers : List ℕ → Result (Unit {0}) LoadRefusal → Slot → Type 0
Answers s (Ok u) t = Writes s (held_card t)
Answers s (Err TooLong) t = NoCard s TooLong
Answers s (Err (Line e)) t = NoCard s (Line e)
Answers s (Err TooManyTasks) t = NoCard s TooManyTasks
Answers s (Err TooManySteps) t = NoCard s TooManySteps
Answers s (Err Memory) t = Unit {0}
