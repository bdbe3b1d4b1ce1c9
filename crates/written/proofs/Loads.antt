-- A load, by what a text writes.
use Rattle.std.proofs.Common.{◌≡◌, ℕ, List, Ok, Err, Result, sym, ap, ◌∙◌, subst, arith}
use Rattle.cards.specs.Code.{Card}
use Rattle.loading.specs.declared.refusal.LoadRefusal.{LoadRefusal}
use Rattle.loading.specs.declared.refusal.LoadRefusal.TheVariants.{TooLong, Line, TooManyTasks, TooManySteps, Memory}
use Rattle.loading.specs.declared.slot.Slot.{Slot}
use Rattle.loading.specs.Loading.{reading, accepted, refused, held_card, Loads}
use Rattle.written.specs.Laws.{Writes, Offence, NoCard, Laws, Answers}
use Rattle.written.proofs.Accepted.{ReadingBack, reading_back}
use Rattle.written.proofs.Written.{written_is_accepted}
use Rattle.written.proofs.FirstFaults.{first_offence, faultless}

read_back : (s : List ℕ) (c : Card) → reading s ≡ accepted c → Writes s c
read_back s c e = subst (ReadingBack s) e (reading_back s)

offends : (s : List ℕ) (e : LoadRefusal) → reading s ≡ refused e → ReadingBack s (refused e) → Offence s e
offends s TooLong h b = b
offends s (Line e) h b = first_offence s e h
offends s TooManyTasks h b = (faultless s (refused TooManyTasks) h (λ x. let z : ◌≡◌ {A = ℕ} 0 1 = cc in omega arith) (λ e x. let z : ◌≡◌ {A = ℕ} 0 1 = cc in omega arith), b)
offends s TooManySteps h b = (faultless s (refused TooManySteps) h (λ x. let z : ◌≡◌ {A = ℕ} 0 1 = cc in omega arith) (λ e x. let z : ◌≡◌ {A = ℕ} 0 1 = cc in omega arith), (b.0, b.1, (b.2, b.3)))
offends s Memory h b = b

no_card : (s : List ℕ) (e : LoadRefusal) → reading s ≡ refused e → NoCard s e
no_card s e h = record {
  none = λ c w. let a = ap reading w.text ∙ written_is_accepted c w.formed in let z : ◌≡◌ {A = ℕ} 0 1 = cc in omega arith;
  offence = offends s e h (subst (ReadingBack s) h (reading_back s));
}

pub laws : Laws
laws = record {
  back = read_back;
  forth = written_is_accepted;
  one_text = λ s t c e f. (read_back s c e).text ∙ sym (read_back t c f).text;
  refusal = no_card;
}

pub answers : (s : List ℕ) (r : Result (Unit {0}) LoadRefusal) (t u : Slot) → Loads s r t u → Answers s r u
answers s (Ok x) t u h = read_back s (held_card u) h
answers s (Err TooLong) t u h = no_card s TooLong h.0
answers s (Err (Line e)) t u h = no_card s (Line e) h.0
answers s (Err TooManyTasks) t u h = no_card s TooManyTasks h.0
answers s (Err TooManySteps) t u h = no_card s TooManySteps h.0
answers s (Err Memory) t u h = tt
