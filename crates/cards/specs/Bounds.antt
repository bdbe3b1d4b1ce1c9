-- The bounds that a card keeps to: steps, tasks, lines, depth and objects.
use Rattle.std.specs.Prelude.{ℕ, suc, ◌+◌, ◌*◌, ◌≤◌, max, length}
use Rattle.cards.specs.Code.{Block, end, next, Statement, Card}

-- the most steps that a block can make
unfoldable mutual
  pub step_bound : Block → ℕ
  step_bound end = 0
  step_bound (next l s b) = statement_steps s + step_bound b

  pub statement_steps : Statement → ℕ
  statement_steps (Statement.set i z) = 1
  statement_steps (Statement.add i j) = 1
  statement_steps (Statement.point p o) = 1
  statement_steps (Statement.alias p q) = 1
  statement_steps (Statement.read i p) = 1
  statement_steps (Statement.write p i) = 1
  statement_steps (Statement.join p i) = 1
  statement_steps (Statement.if i j x) = 1 + step_bound x
  statement_steps (Statement.if_else i j x y) = 1 + max (step_bound x) (step_bound y)
  statement_steps (Statement.repeat c x) = 1 + c * (1 + step_bound x)
  statement_steps (Statement.task ds x) = 2 + step_bound x
  statement_steps (Statement.with ds) = 1

-- the most tasks that a block can make
unfoldable mutual
  pub task_bound : Block → ℕ
  task_bound end = 0
  task_bound (next l s b) = statement_tasks s + task_bound b

  pub statement_tasks : Statement → ℕ
  statement_tasks (Statement.set i z) = 0
  statement_tasks (Statement.add i j) = 0
  statement_tasks (Statement.point p o) = 0
  statement_tasks (Statement.alias p q) = 0
  statement_tasks (Statement.read i p) = 0
  statement_tasks (Statement.write p i) = 0
  statement_tasks (Statement.join p i) = 0
  statement_tasks (Statement.if i j x) = task_bound x
  statement_tasks (Statement.if_else i j x y) = max (task_bound x) (task_bound y)
  statement_tasks (Statement.repeat c x) = c * task_bound x
  statement_tasks (Statement.task ds x) = 1 + task_bound x
  statement_tasks (Statement.with ds) = 0

-- how deep blocks nest below a block
unfoldable mutual
  pub depth : Block → ℕ
  depth end = 0
  depth (next l s b) = max (statement_depth s) (depth b)

  pub statement_depth : Statement → ℕ
  statement_depth (Statement.set i z) = 0
  statement_depth (Statement.add i j) = 0
  statement_depth (Statement.point p o) = 0
  statement_depth (Statement.alias p q) = 0
  statement_depth (Statement.read i p) = 0
  statement_depth (Statement.write p i) = 0
  statement_depth (Statement.join p i) = 0
  statement_depth (Statement.if i j x) = suc (depth x)
  statement_depth (Statement.if_else i j x y) = suc (max (depth x) (depth y))
  statement_depth (Statement.repeat c x) = suc (depth x)
  statement_depth (Statement.task ds x) = suc (depth x)
  statement_depth (Statement.with ds) = 0

-- how many lines a block takes; `end`, `else`, `do`, `cont` and declarations are lines too
unfoldable mutual
  pub line_count : Block → ℕ
  line_count end = 0
  line_count (next l s b) = statement_lines s + line_count b

  pub statement_lines : Statement → ℕ
  statement_lines (Statement.set i z) = 1
  statement_lines (Statement.add i j) = 1
  statement_lines (Statement.point p o) = 1
  statement_lines (Statement.alias p q) = 1
  statement_lines (Statement.read i p) = 1
  statement_lines (Statement.write p i) = 1
  statement_lines (Statement.join p i) = 1
  statement_lines (Statement.if i j x) = 2 + line_count x
  statement_lines (Statement.if_else i j x y) = 3 + (line_count x + line_count y)
  statement_lines (Statement.repeat c x) = 2 + line_count x
  statement_lines (Statement.task ds x) = 3 + (length ds + line_count x)
  statement_lines (Statement.with ds) = 2 + length ds

-- how many objects there must be for each `point` to name one
unfoldable mutual
  pub object_bound : Block → ℕ
  object_bound end = 0
  object_bound (next l s b) = max (statement_objects s) (object_bound b)

  pub statement_objects : Statement → ℕ
  statement_objects (Statement.set i z) = 0
  statement_objects (Statement.add i j) = 0
  statement_objects (Statement.point p o) = suc o
  statement_objects (Statement.alias p q) = 0
  statement_objects (Statement.read i p) = 0
  statement_objects (Statement.write p i) = 0
  statement_objects (Statement.join p i) = 0
  statement_objects (Statement.if i j x) = object_bound x
  statement_objects (Statement.if_else i j x y) = max (object_bound x) (object_bound y)
  statement_objects (Statement.repeat c x) = object_bound x
  statement_objects (Statement.task ds x) = object_bound x
  statement_objects (Statement.with ds) = 0

-- the step bound W and the task bound T of a card: main's last step and main itself count too
abbrev pub card_steps : Card → ℕ
card_steps c = step_bound c.body + 1

abbrev pub card_tasks : Card → ℕ
card_tasks c = task_bound c.body + 1

-- the limits of a card
pub record WithinLimits (c : Card) : Type 0 where
  pub an_object : 1 ≤ length c.words
  pub objects : length c.words ≤ 16
  pub lines : line_count c.body ≤ 256
  pub deep : depth c.body ≤ 8
  pub pointed : object_bound c.body ≤ length c.words
  pub tasks : card_tasks c ≤ 64
  pub steps : card_steps c ≤ 1_000_000
