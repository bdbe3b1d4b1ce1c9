use Rattle.schedulers.specs.Rounds.{Nearest}
use Rattle.schedulers.proofs.turns.nearest.Given as goal

abbrev pub invariant-loop-n : goal.invariant-loop-n
invariant-loop-n l = Nearest l.k l.offer l.n-index l.least
