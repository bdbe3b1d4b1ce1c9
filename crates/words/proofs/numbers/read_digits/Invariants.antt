use Rattle.std.proofs.Common.{◌≡◌, ◌≤◌, drop}
use Rattle.words.specs.Numbers.{reads}
use Rattle.words.proofs.numbers.read_digits.Given as goal

abbrev pub invariant-loop-b : goal.invariant-loop-b
invariant-loop-b l = (l.n ≤ l.max) × (reads l.max l.n (drop l.b-index l.s) ≡ reads l.max 0 l.s)
