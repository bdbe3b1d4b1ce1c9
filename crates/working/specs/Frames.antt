-- What the frames of a task leave to do, and how deep their blocks nest.
use Rattle.std.specs.Prelude.{ℕ, suc, ◌+◌, max, List, [], ◌∷◌}
use Rattle.cards.specs.Code.{Block, end, next, Statement, ◌before◌}
use Rattle.cards.specs.Bounds.{depth}
use Rattle.cards.specs.Trees.{block_of}
use Rattle.working.specs.declared.frame.Rounds.{Rounds}
use Rattle.working.specs.declared.frame.Frame.{Frame}
use Rattle.working.specs.declared.frame.Frame.TheVariants.{After, Again}

-- rounds with the rest after them, and then b
abbrev pub rounds_block : Rounds → Block → Block
rounds_block q b = next q.line (Statement.repeat q.left (block_of q.body.now)) (block_of q.rest.now before b)

-- a frame, and then b
abbrev pub frame_block : Frame → Block → Block
frame_block (After r) b = block_of r.now before b
frame_block (Again q) b = rounds_block q b

-- all frames, and then b; the last is the first to be worked
unfoldable pub stack : List Frame → Block → Block
stack [] b = b
stack (f ∷ fs) b = stack fs (frame_block f b)

-- what is left of a block, and then the frames
abbrev pub left_in : Block → List Frame → Block
left_in x fs = x before stack fs end

abbrev pub rounds_depth : Rounds → ℕ
rounds_depth q = max (suc (depth (block_of q.body.now))) (depth (block_of q.rest.now))

abbrev pub frame_depth : Frame → ℕ
frame_depth (After r) = depth (block_of r.now)
frame_depth (Again q) = rounds_depth q

-- the deepest block that the frames hold, where the first frame stands at depth n
unfoldable pub deepest : ℕ → List Frame → ℕ
deepest n [] = 0
deepest n (f ∷ fs) = max (n + frame_depth f) (deepest (suc n) fs)
