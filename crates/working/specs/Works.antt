-- What work a task has still to do.
use Rattle.std.specs.Prelude.{◌≡◌, ℕ, zero, suc, ◌+◌, ◌≤◌, List, take, vec_items, vec_len}
use Rattle.cards.specs.Code.{Block, end, next, Statement, ◌before◌}
use Rattle.cards.specs.Bounds.{task_bound}
use Rattle.cards.specs.declared.tree.Step.{Step}
use Rattle.cards.specs.Trees.{block_of, statement_of}
use Rattle.working.specs.declared.place.Place.{Place}
use Rattle.working.specs.declared.work.Work.{Work}
use Rattle.working.specs.declared.moves.Head.{Head}
use Rattle.working.specs.declared.moves.Head.TheVariants.{Nothing, Next, Round}
use Rattle.working.specs.Frames.{rounds_block, rounds_depth, stack, left_in}

abbrev pub ranks_of : Place → List ℕ
ranks_of p = take p.depth p.ranks

-- the frames' part of what is left
abbrev pub below : Work → Block
below w = stack (vec_items w.frames) end

-- x, or x and then y, and then the frames
abbrev pub over : Block → Work → Block
over x w = x before below w

abbrev pub over_both : Block → Block → Work → Block
over_both x y w = x before (y before below w)

abbrev pub work_of : Work → Block
work_of w = left_in (block_of w.at.now) (vec_items w.frames)

abbrev pub step_of : Step → Block → Block
step_of s b = next s.line (statement_of s.statement) b

-- a block of depth n is not too deep here, and b makes not too many tasks
abbrev pub Fits : Work → ℕ → Type 0
Fits w n = w.place.depth + (vec_len w.frames + n) ≤ 8

abbrev pub Few : Work → Block → Type 0
Few w b = w.children + task_bound b ≤ 63

-- place and children stay
abbrev pub Stays : Work → Work → Type 0
Stays v w = (w.place ≡ v.place) × (w.children ≡ v.children)

-- what stands at the head of v, of which w is left
abbrev pub Heads : Head → Work → Work → Type 0
Heads Nothing v w = (work_of v ≡ end) × (work_of w ≡ end)
Heads (Next s) v w = (work_of w ≡ work_of v) × (block_of w.at.now ≡ step_of s.now (block_of s.now.rest))
Heads (Round q) v w = (work_of v ≡ rounds_block q (below w)) × Fits w (rounds_depth q) × Few w (work_of v)

-- what is left once a round of n rounds of x before b is begun
abbrev pub after_rounds : ℕ → ℕ → Block → Block → Block
after_rounds l zero x b = b
after_rounds l (suc n) x b = x before next l (Statement.repeat n x) b
