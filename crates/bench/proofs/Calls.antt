-- Calls that are refused or granted, and tasks that get another status.
use Rattle.std.proofs.Common.{◌≡◌, ℕ, Bool, true, false, cond, leb, List, length, [], ◌∷◌, sym, ap, ◌∙◌, None, Option, Some}
use Rattle.std.proofs.lemmas.Bool.{cond-true, cond-false}
use Rattle.kinds.specs.Kinds.{Kind}
use Rattle.working.specs.Tasks.{Task}
use Rattle.runs.specs.declared.refusal.Refusal.{Refusal}
use Rattle.runs.specs.declared.refusal.Refusal.TheVariants.{Foreign, Unsettled, BufferTooShort}
use Rattle.runs.specs.Lines.{Status, Member, member, with_status, find, replace}
use Rattle.runs.specs.Benches.{Bench, bench}
use Rattle.runs.specs.Steps.{marked, put}
use Rattle.runs.specs.Events.{can_close}
use Rattle.runs.specs.Left.{weight, left}
use Rattle.runs.specs.BenchSheets.{bench_sheet}
use Rattle.runs.specs.Calls.{Going, Closed, Call, close, sheet, refused}
use Rattle.runs.specs.Tests.{fits, unless, too_long, own_refusal, refusal}
use Rattle.runs.specs.Answers.{write_out, answered, answer, sheet_call}
use Rattle.runs.proofs.Lines.{found}
use Rattle.runs.proofs.Left.{marked_keeps}
use Rattle.runs.proofs.Events.{put_found}
use Rattle.runs.proofs.Refusals.{answer_refused}

module _ (k : Kind) (x : Call) (b : Bench) where
  pub foreign_refusal : fits x b ≡ false → refusal k x b ≡ Some Foreign
  unfolding refusal
  foreign_refusal e = cond-false (fits x b) _ _ e

  pub own_refusal_is : (o : Option Refusal) → fits x b ≡ true → own_refusal k x b ≡ o → refusal k x b ≡ o
  unfolding refusal
  own_refusal_is o e h = cond-true (fits x b) _ _ e ∙ h

  pub foreign : fits x b ≡ false → answer k x b ≡ (refused Foreign, b)
  foreign e = answer_refused k b x Foreign (foreign_refusal e)

  pub refused_own : (r : Refusal) → fits x b ≡ true → own_refusal k x b ≡ Some r → answer k x b ≡ (refused r, b)
  refused_own r e h = answer_refused k b x r (own_refusal_is (Some r) e h)

pub unless_false : (t : Bool) (r : Refusal) → t ≡ false → unless t r ≡ Some r
unfolding unless
unless_false t r e = ap (λ (x : Bool). unless x r) e

pub unless_true : (t : Bool) (r : Refusal) → t ≡ true → unless t r ≡ None
unfolding unless
unless_true t r e = ap (λ (x : Bool). unless x r) e

-- a run that is not settled, or has a turn out, is not closed
pub close_unsettled : (k : Kind) (g : Going) (b : Bench) → fits (close g) b ≡ true → can_close b ≡ false → answer k (close g) b ≡ (refused Unsettled, b)
unfolding own_refusal
close_unsettled k g b e h = refused_own k (close g) b Unsettled e (unless_false _ Unsettled h)

-- task n, which is t, goes from status u to v, and the line with it to line'
module _ (r : ℕ) (m : List ℕ) (line line' : List Member) (c steps : ℕ) (z : Bool) (n : ℕ) (t : Task) (u v : Status) (granted : Bool) (yes : granted ≡ true) (here : find n line ≡ Some (member n u t)) (is : line' ≡ cond granted (replace n (member n v t ∷ []) line) line) where
  replaced : line' ≡ replace n (member n v t ∷ []) line
  replaced = is ∙ cond-true granted _ _ yes

  pub put_is : bench r m line' c steps z ≡ put n v (bench r m line c steps z)
  unfolding marked bench with_status member
  put_is = ap (λ (l : List Member). bench r m l c steps z) replaced ∙ sym (put_found n v (bench r m line c steps z) (member n u t) here)

  pub put_left : weight v t ≡ weight u t → left line' ≡ left line
  unfolding marked bench with_status member
  put_left e = ap left replaced ∙ marked_keeps (bench r m line c steps z) (member n u t) v (found n line (member n u t) here) e

-- the sheet call
module _ (k : Kind) (z : Closed) (buffer : List ℕ) (b : Bench) where
  pub sheet_refused : (r : Refusal) → refusal k (sheet z buffer) b ≡ Some r → sheet_call k z buffer b ≡ (refused r, buffer)
  unfolding sheet_call answered
  sheet_refused r e = ap (λ (o : Option Refusal). answered o buffer (write_out (bench_sheet k b) buffer)) e

  pub sheet_foreign : fits (sheet z buffer) b ≡ false → sheet_call k z buffer b ≡ (refused Foreign, buffer)
  sheet_foreign e = sheet_refused Foreign (foreign_refusal k (sheet z buffer) b e)

  pub sheet_too_long : fits (sheet z buffer) b ≡ true → leb (length (bench_sheet k b)) (length buffer) ≡ false → sheet_call k z buffer b ≡ (refused BufferTooShort, buffer)
  unfolding own_refusal too_long
  sheet_too_long e long = sheet_refused BufferTooShort (own_refusal_is k (sheet z buffer) b (Some BufferTooShort) e (unless_false _ BufferTooShort long))

  pub sheet_granted : refusal k (sheet z buffer) b ≡ None → sheet_call k z buffer b ≡ write_out (bench_sheet k b) buffer
  unfolding sheet_call answered
  sheet_granted e = ap (λ (o : Option Refusal). answered o buffer (write_out (bench_sheet k b) buffer)) e
