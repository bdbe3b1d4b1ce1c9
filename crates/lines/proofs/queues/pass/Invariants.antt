use Rattle.std.proofs.Common.{◌≡◌, ℕ, false, ◌&&◌, length, get_or, drop}
use Rattle.lines.specs.Clears.{at_first, clear_from}
use Rattle.lines.proofs.queues.pass.Given as goal

abbrev pub invariant-loop-e : goal.invariant-loop-e
invariant-loop-e l = (length l.clear ≡ 256) × ((n : ℕ) → (clear_from n l.so_far (drop l.e-index l.entries) && get_or l.clear n false) ≡ (clear_from n at_first l.entries && get_or l.initial.clear n false))
