-- What stands on the page.
use Rattle.std.proofs.Common.{◌≡◌, ℕ, ◌<◌, Bool, true, List, [], ◌∷◌, ◌++◌, length, is_some, Some, None, Ok, vec_items, Option, Result, Vec, sym, refl, ap, ◌∙◌, subst}
use Rattle.std.specs.Option.{option_map}
use Rattle.std.specs.List.{slice_get}
use Rattle.std.specs.declared.alloc.AllocError.{AllocError}
use Rattle.std.specs.declared.alloc.Global.{Global}
use Rattle.kinds.specs.Kinds.{Kind}
use Rattle.working.specs.declared.fault.Fault.{Fault}
use Rattle.working.specs.declared.place.Place.{Place}
use Rattle.working.specs.Tasks.{Task}
use Rattle.working.specs.Works.{ranks_of}
use Rattle.sheets.specs.Sheets.{run_sheet, fault_sheet, outcome_sheet}
use Rattle.sheets.specs.Appends.{Appends}
use Rattle.runs.specs.Lines.{Member, member}
use Rattle.runs.specs.Benches.{bench, stuck_outcome, line_outcome, outcome}
use Rattle.runs.specs.BenchSheets.{settled_sheet, bench_sheet}
use Rattle.lines.specs.declared.state.State.{State}
use Rattle.lines.specs.declared.state.State.TheVariants.{Finished, Waiting, Out, Stuck}
use Rattle.lines.specs.States.{status_of}
use Rattle.bench.specs.Tasks.{task_at}
use Rattle.bench.proofs.TasksAt.{at_there}

-- a text that was appended to an empty page
pub appended : (before after : Vec ℕ Global) (text : List ℕ) (r : Result (Unit {0}) AllocError) (u : Unit {0}) → r ≡ Ok u → Appends before after text r → vec_items before ≡ [] → vec_items after ≡ text
appended before after text r u e h empty = (subst (λ (x : Result (Unit {0}) AllocError). Appends before after text x) e h).items ∙ ap (λ (l : List ℕ). l ++ text) empty

-- The sheet of a bench, by the first in line.

module _ (k : Kind) (r : ℕ) (m : List ℕ) (line : List Member) (c steps : ℕ) (z : Bool) where
  pub sheet_words : line ≡ [] → bench_sheet k (bench r m line c steps z) ≡ run_sheet k c steps m
  unfolding bench bench_sheet settled_sheet outcome line_outcome outcome_sheet
  sheet_words e = ap (λ (l : List Member). settled_sheet k (bench r m line c steps z) (line_outcome m l)) e

  module _ (n : ℕ) (s : State) (t : Task) (rest : List Member) (is : line ≡ member n (status_of s) t ∷ rest) where
    first_sheet : bench_sheet k (bench r m line c steps z) ≡ settled_sheet k (bench r m line c steps z) (stuck_outcome t.place (status_of s))
    unfolding bench bench_sheet outcome line_outcome member
    first_sheet = ap (λ (l : List Member). settled_sheet k (bench r m line c steps z) (line_outcome m l)) is

    pub sheet_fault : (f : Fault) → s ≡ Stuck f → bench_sheet k (bench r m line c steps z) ≡ fault_sheet f.kind f.line t.place
    unfolding settled_sheet stuck_outcome outcome_sheet
    sheet_fault f e = first_sheet ∙ ap (λ (x : State). settled_sheet k (bench r m line c steps z) (stuck_outcome t.place (status_of x))) e

    pub sheet_none : ((f : Fault) → s ≡ Stuck f → ⊥) → bench_sheet k (bench r m line c steps z) ≡ []
    unfolding settled_sheet stuck_outcome
    sheet_none h = first_sheet ∙ go s h
      where
        go : (x : State) → ((f : Fault) → x ≡ Stuck f → ⊥) → settled_sheet k (bench r m line c steps z) (stuck_outcome t.place (status_of x)) ≡ []
        go Finished h = refl
        go Waiting h = refl
        go Out h = refl
        go (Stuck f) h = absurd (h f refl)

-- The place of a task.

module _ (ts : List Task) (n : ℕ) (o : Option Place) (is : option_map ranks_of o ≡ option_map (λ (t : Task). t.place) (slice_get ts n)) (lt : n < length ts) where
  known : option_map ranks_of o ≡ Some (task_at ts n).place
  known = is ∙ ap (option_map (λ (t : Task). t.place)) (at_there ts n lt)

  pub place_some : is_some o ≡ true
  place_some = go o known
    where
      go : (x : Option Place) → option_map ranks_of x ≡ Some (task_at ts n).place → is_some x ≡ true
      go None e = cc
      go (Some p) e = refl

  pub place_is : (p : Place) → o ≡ Some p → ranks_of p ≡ (task_at ts n).place
  place_is p e = let same : Some (ranks_of p) ≡ Some (task_at ts n).place = ap (option_map ranks_of) (sym e) ∙ known in cc
