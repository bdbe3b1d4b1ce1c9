-- The whole promise: whatever calls a bench has seen, it goes on, and it comes to what serial working comes to.
use Rattle.std.specs.Prelude.{◌≡◌, ℕ, ◌<◌, ◌≤◌, Bool, true, false, ◌⊎◌, ◌↔◌, List, [], ◌∷◌, ◌++◌, length, Some, None}
use Rattle.kinds.specs.Kinds.{Kind, Lawful}
use Rattle.cards.specs.Code.{Card}
use Rattle.cards.specs.Bounds.{card_steps, card_tasks}
use Rattle.working.specs.Serial.{Outcome, words, fault, Result, serially, Serially}
use Rattle.sheets.specs.Sheets.{sheet_of}
use Rattle.cards.specs.Literals.{Literals}
use Rattle.runs.specs.Lines.{waiting, out, Member, any_out}
use Rattle.runs.specs.Ready.{ready}
use Rattle.runs.specs.Benches.{Bench, opened, offer, settled, outcome}
use Rattle.runs.specs.Steps.{replied, marked, step, shut, put}
use Rattle.runs.specs.Events.{Event, can_close, replay}
use Rattle.runs.specs.Choices.{Chooses, chosen}
use Rattle.runs.specs.Left.{left}
use Rattle.runs.specs.BenchSheets.{bench_sheet}
use Rattle.runs.specs.Refusals.{Refusal, refusal_number}
use Rattle.runs.specs.Calls.{Going, going_state, Closed, closed_state, turn_of, Call, take, perform, hand_back, look, work_off, close, sheet, Answer, refused, turn, returned, going, closed, LawfulCalls}
use Rattle.runs.specs.Tests.{fits_turn, fits, too_long, refusal}
use Rattle.runs.specs.Answers.{reply_answer, turned, write_out, answered, answer, sheet_call, after_calls}
use Rattle.runs.specs.Done.{calls_done}
use Rattle.runs.specs.WorkOffs.{WorksOff, WorkOffAnswers}

-- Serial working ends within the card's bounds, and the function and the relation say the same.
pub record SerialSound (k : Kind) (c : Card) : Type 0 where
  pub result : Result
  pub worked : serially k c ≡ Some result
  pub agree : (r : Result) → (serially k c ≡ Some r) ↔ Serially k c r
  pub steps_bounded : result.steps ≤ card_steps c
  pub made_bounded : result.made ≤ card_tasks c

-- Refusals.

-- call x is refused with number n
abbrev pub RefusedWith : Kind → Call → Bench → ℕ → Type 0
RefusedWith k x b n = (r : Refusal) × ((answer k x b).0 ≡ refused r) × (refusal_number r ≡ n)

-- the number that a call can be refused with besides 8
abbrev pub OwnNumber : Call → ℕ → Type 0
OwnNumber (take g f) n = n ≡ 7
OwnNumber (perform t) n = ⊥
OwnNumber (hand_back t) n = ⊥
OwnNumber (look o i) n = ⊥
OwnNumber (work_off g fs) n = n ≡ 9
OwnNumber (close g) n = n ≡ 9
OwnNumber (sheet z buffer) n = n ≡ 10

-- when each is answered, and only then; a refused call changes nothing
pub record Refuses (k : Kind) (b : Bench) : Type 0 where
  pub foreign : (x : Call) → RefusedWith k x b 8 ↔ (fits x b ≡ false)
  pub nothing_to_offer : (g : Going) (f : List ℕ → ℕ) → fits (take g f) b ≡ true → RefusedWith k (take g f) b 7 ↔ (offer b ≡ [])
  pub turn_out : (g : Going) (fs : ℕ → List ℕ → ℕ) → fits (work_off g fs) b ≡ true → RefusedWith k (work_off g fs) b 9 ↔ (any_out b.line ≡ true)
  pub unsettled : (g : Going) → fits (close g) b ≡ true → RefusedWith k (close g) b 9 ↔ (can_close b ≡ false)
  pub too_short : (z : Closed) (buffer : List ℕ) → fits (sheet z buffer) b ≡ true → RefusedWith k (sheet z buffer) b 10 ↔ (length buffer < length (bench_sheet k b))
  pub no_other : (x : Call) (n : ℕ) → RefusedWith k x b n → (n ≡ 8) ⊎ OwnNumber x n
  pub unchanged : (x : Call) (n : ℕ) → RefusedWith k x b n → (answer k x b).1 ≡ b
  pub buffer_unchanged : (z : Closed) (buffer : List ℕ) (n : ℕ) → RefusedWith k (sheet z buffer) b n → sheet_call k z buffer b ≡ ((answer k (sheet z buffer) b).0, buffer)

-- A run.

-- without a fault the same steps and tasks made, with one at least as many steps
abbrev pub Counts : Outcome → Result → Bench → Type 0
Counts (words m) r b = (b.steps ≡ r.steps) × (b.made ≡ r.made)
Counts (fault f l p) r b = r.steps ≤ b.steps

-- the outcome is that of serial working, and so is the sheet
pub record Agrees (k : Kind) (c : Card) (b : Bench) : Type 0 where
  pub serial : Result
  pub worked : serially k c ≡ Some serial
  pub same : outcome b ≡ Some serial.outcome
  pub counts : Counts serial.outcome serial b
  pub same_sheet : bench_sheet k b ≡ sheet_of k c

-- granted events alone lead from the opened card to b
abbrev pub Reached : Kind → Card → ℕ → Bench → Type 0
Reached k c r b = (events : List Event) × (replay k events (opened k c r) ≡ Some b)

-- a take gives the turn of the task that f chooses from the offer, and that turn is then out
pub record Takes (k : Kind) (r : ℕ) (f : List ℕ → ℕ) (b : Bench) : Type 0 where
  pub place : f (offer b) < length (offer b)
  pub answers : answer k (take (going_state r) f) b ≡ (turn (turn_of r (chosen f (offer b))), put (chosen f (offer b)) out b)
  pub then_out : fits_turn (turn_of r (chosen f (offer b))) (put (chosen f (offer b)) out b) ≡ true

-- a turn that is out is of a ready task; to perform it makes the task's step, and to hand it back makes none
pub record Performs (k : Kind) (r : ℕ) (b : Bench) (s : Member) : Type 0 where
  pub still : ready b.line s ≡ true
  pub answers : answer k (perform (turn_of r s.number)) b ≡ (reply_answer (replied k b s), step k b s)
  pub given_up : answer k (hand_back (turn_of r s.number)) b ≡ (returned, marked b s waiting)

-- it can close
pub record Rests (b : Bench) : Type 0 where
  pub settled_yet : settled b ≡ true
  pub none_out : any_out b.line ≡ false

pub record Kept (k : Kind) (c : Card) (r : ℕ) (b : Bench) : Type 0 where
  pub same_run : b.run ≡ r
  -- unless settled, a turn is out, or a take by any choice that keeps the law is granted
  pub goes_on : settled b ≡ false → (any_out b.line ≡ true) ⊎ ((f : List ℕ → ℕ) → Chooses f → Takes k r f b)
  pub performs : (before : List Member) (s : Member) (behind : List Member) → b.line ≡ before ++ (s ∷ behind) → s.status ≡ out → Performs k r b s
  -- with no turn out a work-off comes to where it can close
  pub works_off : (fs : ℕ → List ℕ → ℕ) → ((i : ℕ) → Chooses (fs i)) → b.closed ≡ false → any_out b.line ≡ false → ((answer k (work_off (going_state r) fs) b).0 ≡ going (going_state r)) × Rests (answer k (work_off (going_state r) fs) b).1
  -- it closes when it can, and no sooner; once settled it agrees with serial working
  pub closes : b.closed ≡ false → Rests b → answer k (close (going_state r)) b ≡ (closed (closed_state r), shut b)
  pub closed_rests : b.closed ≡ true → Rests b
  pub agrees : settled b ≡ true → Agrees k c b
  -- closed, the sheet call writes the card's sheet
  pub sheets : b.closed ≡ true → (buffer : List ℕ) → sheet_call k (closed_state r) buffer b ≡ answered (too_long (sheet_of k c) buffer) buffer (write_out (sheet_of k c) buffer)
  pub steps_bounded : b.steps ≤ card_steps c
  pub made_bounded : b.made ≤ card_tasks c
  pub reached : Reached k c r b

-- after a list of calls; the steps are the performs that answered done
pub record Promised (k : Kind) (c : Card) (r : ℕ) (calls : List Call) : Type 0 where
  pub kept : Kept k c r (after_calls k calls (opened k c r))
  pub counted : (after_calls k calls (opened k c r)).steps ≡ calls_done k calls (opened k c r)

-- for every lawful kind, every card, every run number and every list of calls
abbrev pub WholePromise : Type 0
WholePromise = (k : Kind) (c : Card) → SerialSound k c × ((b : Bench) → Refuses k b) × (Lawful k → Literals c → (r : ℕ) (calls : List Call) → LawfulCalls calls → Promised k c r calls)

-- Working off under a scheduler with states S.

-- a granted work-off from state s
pub record Works (k : Kind) (c : Card) (r : ℕ) (S : Type 0) (choice : S → List ℕ → ℕ) (next : S → List ℕ → S → Type 0) (s : S) (b : Bench) : Type 0 where
  -- it ends, whichever states follow the picks, if one can follow each
  pub ends : ((t : S) (ns : List ℕ) → (t₁ : S) × next t ns t₁) → (s₁ : S) × (b₁ : Bench) × WorksOff k S choice next s b s₁ b₁
  -- it leaves a bench that can close
  pub leaves : (s₁ : S) (b₁ : Bench) → WorksOff k S choice next s b s₁ b₁ → Rests b₁ × (b₁.closed ≡ false) × Reached k c r b₁

-- one turn of it: less is left to do, and a work-off is granted from there
pub record TurnsOn (k : Kind) (c : Card) (r : ℕ) (g : Going) (fs : ℕ → List ℕ → ℕ) (b b₁ : Bench) : Type 0 where
  pub falls : left b₁.line < left b.line
  pub goes_on : refusal k (work_off g fs) b₁ ≡ None
  pub reached : Reached k c r b₁

-- the call answers a and leaves b₁ with some choices that keep the law
abbrev pub IsCall : (k : Kind) → Going → Bench → Answer → Bench → Type 0
IsCall k g b a b₁ = (fs : ℕ → List ℕ → ℕ) × ((i : ℕ) → Chooses (fs i)) × (answer k (work_off g fs) b ≡ (a, b₁))

pub record WorksFor (k : Kind) (c : Card) (r : ℕ) (S : Type 0) (choice : S → List ℕ → ℕ) (next : S → List ℕ → S → Type 0) (b : Bench) : Type 0 where
  pub works : (g : Going) (s : S) → refusal k (work_off g (λ i. choice s)) b ≡ None → Works k c r S choice next s b
  pub turns_on : (g : Going) (s : S) → refusal k (work_off g (λ i. choice s)) b ≡ None → settled b ≡ false → TurnsOn k c r g (λ i. choice s) b (turned k (choice s) b)
  pub is_call : (g : Going) (s : S) (a : Answer) (s₁ : S) (b₁ : Bench) → WorkOffAnswers k S choice next g s b a s₁ b₁ → IsCall k g b a b₁

-- wherever granted events lead
abbrev pub WorkOffPromise : (S : Type 0) → (S → List ℕ → ℕ) → (S → List ℕ → S → Type 0) → Type 0
WorkOffPromise S choice next = (k : Kind) (c : Card) → Lawful k → Literals c → (r : ℕ) (b : Bench) → Reached k c r b → WorksFor k c r S choice next b

-- whatever is chosen in each state, and whichever states may follow a pick, by a test
abbrev pub WorkOffsEnd : Type 0 → Type 0
WorkOffsEnd S = (choice : S → List ℕ → ℕ) (follows : S → List ℕ → S → Bool) → ((s : S) → Chooses (choice s)) → WorkOffPromise S choice (λ s ns t. follows s ns t ≡ true)
