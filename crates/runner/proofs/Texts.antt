-- A sheet by what it was made of.
use Rattle.std.proofs.Common.{◌≡◌, ℕ, List, IfOk, Some, Ok, Err, vec_items, Result, Vec, sym, ap, ◌∙◌}
use Rattle.std.specs.declared.alloc.AllocError.{AllocError}
use Rattle.std.specs.declared.alloc.Global.{Global}
use Rattle.kinds.specs.Kinds.{Kind}
use Rattle.cards.specs.Code.{Card}
use Rattle.loading.specs.declared.refusal.LoadRefusal.{LoadRefusal}
use Rattle.loading.specs.declared.refusal.LoadRefusal.TheVariants.{TooLong, Line, TooManyTasks, TooManySteps, Memory}
use Rattle.loading.specs.declared.refusal.Told.{Told}
use Rattle.loading.specs.declared.slot.Slot.{Slot}
use Rattle.loading.specs.Refusals.{told}
use Rattle.loading.specs.Loading.{reading, accepted, Loads}
use Rattle.working.specs.declared.fault.FaultKind.{FaultKind}
use Rattle.working.specs.Serial.{Outcome, words, fault, Result as Came, serially}
use Rattle.sheets.specs.Sheets.{run_sheet, fault_sheet, refused_sheet, outcome_sheet, result_sheet, sheet_of}
use Rattle.runner.specs.Texts.{card_sheet, told_sheet, reading_sheet, text_sheet}

-- a sheet that is x is y
pub made_along : (r : Result (Vec ℕ Global) AllocError) (x y : List ℕ) → x ≡ y → IfOk r (λ v. vec_items v ≡ x) → IfOk r (λ v. vec_items v ≡ y)
made_along (Ok v) x y e h = h ∙ e
made_along (Err z) x y e h = tt

sheet_came : (k : Kind) (c : Card) (r : Came) (o : Outcome) → serially k c ≡ Some r → r.outcome ≡ o → outcome_sheet k r.made r.steps o ≡ sheet_of k c
unfolding sheet_of result_sheet
sheet_came k c r o e f = ap (outcome_sheet k r.made r.steps) (sym f) ∙ ap (result_sheet k) (sym e)

-- the words xs are those of the outcome, and ranks those of the place
pub sheet_words : (k : Kind) (c : Card) (r : Came) (ws xs : List ℕ) → serially k c ≡ Some r → r.outcome ≡ words ws → xs ≡ ws → run_sheet k r.made r.steps xs ≡ sheet_of k c
unfolding outcome_sheet
sheet_words k c r ws xs e f g = ap (run_sheet k r.made r.steps) g ∙ sheet_came k c r (words ws) e f

pub sheet_fault : (k : Kind) (c : Card) (r : Came) (f : FaultKind) (l : ℕ) (place ranks : List ℕ) → serially k c ≡ Some r → r.outcome ≡ fault f l place → ranks ≡ place → fault_sheet f l ranks ≡ sheet_of k c
unfolding outcome_sheet
sheet_fault k c r f l place ranks e g h = ap (fault_sheet f l) h ∙ sheet_came k c r (fault f l place) e g

pub text_accepted : (s : List ℕ) (c : Card) → reading s ≡ accepted c → card_sheet c ≡ text_sheet s
unfolding text_sheet
text_accepted s c e = ap reading_sheet (sym e)

-- what is told of a refusal is told of the text
pub text_refused : (s : List ℕ) (y : LoadRefusal) (t : Told) (a b : Slot) → Some t ≡ told y → Loads s (Err y) a b → refused_sheet t.number t.line t.word ≡ text_sheet s
unfolding text_sheet
text_refused s TooLong t a b e l = ap told_sheet e ∙ ap reading_sheet (sym l.0)
text_refused s (Line z) t a b e l = ap told_sheet e ∙ ap reading_sheet (sym l.0)
text_refused s TooManyTasks t a b e l = ap told_sheet e ∙ ap reading_sheet (sym l.0)
text_refused s TooManySteps t a b e l = ap told_sheet e ∙ ap reading_sheet (sym l.0)
text_refused s Memory t a b e l = cc
