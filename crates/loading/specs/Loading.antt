-- What a text says: a card, or why it is none. Its length is judged first, then each line, then an open statement, then the task bound, then the step bound.
use Rattle.std.specs.Prelude.{◌≡◌, ℕ, ◌+◌, ◌≤◌, cond, List, length, Ok, Err, Result, nat_lt}
use Rattle.cards.specs.Code.{Block, Card}
use Rattle.cards.specs.Bounds.{card_tasks, card_steps, line_count, depth, object_bound}
use Rattle.cards.specs.Trees.{block_of}
use Rattle.cards.specs.declared.tree.Block as Tree
use Rattle.cards.specs.Cards.{card_of}
use Rattle.cards.specs.declared.card.Card as Rust
use Rattle.loading.specs.declared.refusal.LineFault.{LineFault}
use Rattle.loading.specs.declared.refusal.LineFault.TheVariants.{Misplaced}
use Rattle.loading.specs.declared.refusal.LoadRefusal.{LoadRefusal}
use Rattle.loading.specs.declared.refusal.LoadRefusal.TheVariants.{TooLong, Line, TooManyTasks, TooManySteps, Memory}
use Rattle.loading.specs.declared.blocks.Closer.{Closer}
use Rattle.loading.specs.declared.blocks.Closer.TheVariants as C
use Rattle.loading.specs.declared.slot.Slot.{Slot}
use Rattle.loading.specs.declared.cursor.Cursor.{Cursor}
use Rattle.loading.specs.Texts.{section, rest_of, text_number}
use Rattle.loading.specs.Blocks.{Out, got, bad, read_block}
use Rattle.loading.specs.Headers.{Header, read_header}

pub data Reading : Type 0 where
  accepted : Card → Reading
  refused : LoadRefusal → Reading

abbrev pub card : Header → Block → Card
card h b = record { kind = h.kind; order = h.order; words = h.words; body = b }

-- the bounds of a card that fits otherwise
abbrev pub bounded : Card → Reading
bounded c = cond (nat_lt 64 (card_tasks c)) (refused TooManyTasks) (cond (nat_lt 1_000_000 (card_steps c)) (refused TooManySteps) (accepted c))

-- main's block is ended by the end of the section
abbrev pub section_ended : Closer → Result (Unit {0}) LineFault
section_ended (C.End n) = Err (Misplaced n)
section_ended (C.Else n) = Err (Misplaced n)
section_ended C.Out = Ok tt

abbrev pub main_block : Result (Unit {0}) LineFault → Block → Result Block LineFault
main_block (Ok u) b = Ok b
main_block (Err e) b = Err e

abbrev pub whole_section : Out (Block × Closer) → Result Block LineFault
whole_section (bad e) = Err e
whole_section (got (b, q) s l) = main_block (section_ended q) b

-- how many lines stand before the lines section
abbrev pub header_lines : Header → ℕ
header_lines h = 5 + length h.words

-- main's block, read from the lines section at text s
unfoldable pub read_body : Header → List ℕ → Result Block LineFault
read_body h s = whole_section (read_block (header_lines h) (length h.words) (h.lines + 2) (section h.lines s (header_lines h + 1)) 1 8)

abbrev pub after_body : Header → Result Block LineFault → Reading
after_body h (Ok b) = bounded (card h b)
after_body h (Err e) = refused (Line e)

abbrev pub after_header : Result (Header × List ℕ) LineFault → Reading
after_header (Err e) = refused (Line e)
after_header (Ok (h, s)) = after_body h (read_body h s)

unfoldable pub reading : List ℕ → Reading
reading s = cond (nat_lt 16_384 (length s)) (refused TooLong) (after_header (read_header s))

-- what reading a card answers, but for want of memory
abbrev pub ReadingIs : Result Rust.Card LoadRefusal → Reading → Type 0
ReadingIs (Ok c) r = r ≡ accepted (card_of c)
ReadingIs (Err TooLong) r = r ≡ refused TooLong
ReadingIs (Err (Line e)) r = r ≡ refused (Line e)
ReadingIs (Err TooManyTasks) r = r ≡ refused TooManyTasks
ReadingIs (Err TooManySteps) r = r ≡ refused TooManySteps
ReadingIs (Err Memory) r = Unit {0}

-- the cursor c moved to the start of a lines section of m lines, on n objects
pub record Begins (c : Cursor) (m n : ℕ) (d : Cursor) : Type 0 where
  pub rest : rest_of d ≡ rest_of c
  pub header : d.header + 1 ≡ text_number c
  pub line : d.line ≡ 1
  pub left : d.left ≡ m
  pub objects : d.objects ≡ n

-- main's block is read, but for want of memory, and it fits
pub record FitsBody (h : Header) (b : Block) : Type 0 where
  pub lines : line_count b ≤ h.lines
  pub deep : depth b ≤ 8
  pub pointed : object_bound b ≤ length h.words

abbrev pub BodyIs : Result Tree.Block LoadRefusal → Header → List ℕ → Type 0
BodyIs (Ok b) h s = (read_body h s ≡ Ok (block_of b)) × FitsBody h (block_of b)
BodyIs (Err (Line e)) h s = read_body h s ≡ Err e
BodyIs (Err Memory) h s = Unit {0}
BodyIs (Err TooLong) h s = ⊥
BodyIs (Err TooManyTasks) h s = ⊥
BodyIs (Err TooManySteps) h s = ⊥

-- a card that fits but for the bounds
pub record FitsCard (c : Card) : Type 0 where
  pub an_object : 1 ≤ length c.words
  pub objects : length c.words ≤ 16
  pub lines : line_count c.body ≤ 256
  pub deep : depth c.body ≤ 8
  pub pointed : object_bound c.body ≤ length c.words

-- the card that a slot holds
abbrev pub held_card : Slot → Card
held_card s = card_of s.card

-- what loading a text into slot s answers, and the slot t afterwards: a refusal leaves it as it was
abbrev pub Loads : List ℕ → Result (Unit {0}) LoadRefusal → Slot → Slot → Type 0
Loads x (Ok u) s t = reading x ≡ accepted (held_card t)
Loads x (Err TooLong) s t = (reading x ≡ refused TooLong) × (t ≡ s)
Loads x (Err (Line e)) s t = (reading x ≡ refused (Line e)) × (t ≡ s)
Loads x (Err TooManyTasks) s t = (reading x ≡ refused TooManyTasks) × (t ≡ s)
Loads x (Err TooManySteps) s t = (reading x ≡ refused TooManySteps) × (t ≡ s)
Loads x (Err Memory) s t = t ≡ s
