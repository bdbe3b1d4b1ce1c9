-- How many steps the tasks that are not stuck can still make.
use Rattle.std.specs.Prelude.{ℕ, ◌+◌, List, [], ◌∷◌}
use Rattle.cards.specs.Bounds.{step_bound}
use Rattle.working.specs.Tasks.{Task}
use Rattle.runs.specs.Lines.{Status, waiting, out, stuck, Member}

unfoldable pub weight : Status → Task → ℕ
weight waiting t = step_bound t.work + 1
weight out t = step_bound t.work + 1
weight (stuck f l) t = 0

unfoldable pub left : List Member → ℕ
left [] = 0
left (s ∷ ss) = weight s.status s.task + left ss
