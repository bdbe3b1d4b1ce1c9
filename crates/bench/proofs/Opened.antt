-- A bench that was just opened.
use Rattle.std.proofs.Common.{◌≡◌, ℕ, false, List, [], ◌∷◌, length, Some, sym, refl, ap, ◌∙◌, arith}
use Rattle.std.specs.List.{slice_get}
use Rattle.kinds.specs.Kinds.{Kind}
use Rattle.cards.specs.Code.{Card}
use Rattle.cards.specs.Bounds.{card_steps}
use Rattle.cards.specs.Literals.{Literals}
use Rattle.working.specs.declared.declared.Declared.{Declared}
use Rattle.working.specs.Tasks.{Task, main, starting_words}
use Rattle.runs.specs.Lines.{waiting, member}
use Rattle.runs.specs.Benches.{Bench, bench, opened}
use Rattle.runs.specs.Left.{weight, left}
use Rattle.runs.specs.Answers.{after_calls}
use Rattle.tasks.specs.declared.tasks.Tasks.{Tasks}
use Rattle.tasks.specs.Views.{store_of, tasks_of, declared_by}
use Rattle.tasks.proofs.Sized.{declared_sized}
use Rattle.lines.specs.declared.line.Line.{Line}
use Rattle.lines.specs.Lines.{object_count, line_of, Tells}
use Rattle.bench.specs.Tasks.{task_at}
use Rattle.bench.specs.Histories.{History}
use Rattle.bench.proofs.TasksAt.{at_known, at_declared}
use Rattle.bench.proofs.Steps.{same_bench}

pub opened_history : (k : Kind) (c : Card) (r : ℕ) (b : Bench) → Literals c → b ≡ opened k c r → History k c r b
unfolding after_calls
opened_history k c r b ls e = record { literals = ls; calls = []; lawful = tt; leads = sym e }

-- the only task declares on each object
pub alone_declares : (s : Tasks) (t : Task) (ds : List Declared) → tasks_of s ≡ t ∷ [] → ds ≡ declared_by (slice_get (tasks_of s) 0) → length ds ≡ length (store_of s)
alone_declares s t ds first is =
    let known : slice_get (tasks_of s) 0 ≡ Some t = ap (λ (ts : List Task). slice_get ts 0) first in
    ap length (is ∙ ap declared_by known) ∙ declared_sized s 0 t known

-- the tasks s and the line l of card c, where main declares ds
module _ (k : Kind) (c : Card) (s : Tasks) (words : store_of s ≡ starting_words k c) (first : tasks_of s ≡ main k c ∷ [])
    (l : Line) (ds : List Declared) (is : ds ≡ declared_by (slice_get (tasks_of s) 0))
    (line : (t : ℕ → Task) → line_of l t ≡ member 0 waiting (t 0) ∷ []) (tells : (t : ℕ → Task) → (t 0).declared ≡ ds → Tells l t)
    (sized : (object_count l ≡ length ds) × (l.made ≡ 1)) where
  known : slice_get (tasks_of s) 0 ≡ Some (main k c)
  known = ap (λ (ts : List Task). slice_get ts 0) first

  pub first_told : Tells l (task_at (tasks_of s))
  first_told = tells (task_at (tasks_of s)) (at_declared (tasks_of s) 0 ∙ sym is)

  pub first_numbered : l.made ≡ length (tasks_of s)
  first_numbered = sized.1 ∙ sym (ap length first)

  pub first_sized : object_count l ≡ length (store_of s)
  first_sized = sized.0 ∙ alone_declares s (main k c) ds first is

  first_line : line_of l (task_at (tasks_of s)) ≡ member 0 waiting (main k c) ∷ []
  first_line = line (task_at (tasks_of s)) ∙ ap (λ (t : Task). member 0 waiting t ∷ []) (at_known (tasks_of s) 0 (main k c) known)

  pub first_left : left (line_of l (task_at (tasks_of s))) ≡ card_steps c
  unfolding left weight member main
  first_left = ap left first_line ∙ omega arith

  pub first_bench : (r : ℕ) → bench r (store_of s) (line_of l (task_at (tasks_of s))) (length (tasks_of s)) 0 false ≡ opened k c r
  unfolding opened
  first_bench r = same_bench r false words first_line (ap length first) refl
