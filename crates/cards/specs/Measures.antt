-- What is measured of code: each bound, or a number past its limit where the bound is past it.
use Rattle.std.specs.Prelude.{◌≡◌, ℕ, min}
use Rattle.cards.specs.Code.{Block, Statement}
use Rattle.cards.specs.Bounds.{step_bound, statement_steps, task_bound, statement_tasks, depth, statement_depth, line_count, statement_lines, object_bound, statement_objects}
use Rattle.cards.specs.declared.extent.Extent.{Extent}

-- e measures steps s, tasks t, depth d, lines l and objects o, each up to one past its limit
pub record Measures (s t d l o : ℕ) (e : Extent) : Type 0 where
  pub steps : e.steps ≡ min s 1_000_001
  pub tasks : e.tasks ≡ min t 65
  pub depth : e.depth ≡ min d 9
  pub lines : e.lines ≡ min l 257
  pub objects : e.objects ≡ min o 257

abbrev pub MeasuresBlock : Block → Extent → Type 0
MeasuresBlock b e = Measures (step_bound b) (task_bound b) (depth b) (line_count b) (object_bound b) e

abbrev pub MeasuresStatement : Statement → Extent → Type 0
MeasuresStatement s e = Measures (statement_steps s) (statement_tasks s) (statement_depth s) (statement_lines s) (statement_objects s) e
