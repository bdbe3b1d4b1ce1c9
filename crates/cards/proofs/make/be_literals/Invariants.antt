use Rattle.std.proofs.Common.{◌≡◌, drop}
use Rattle.cards.specs.Literals.{all_literals}
use Rattle.cards.proofs.make.be_literals.Given as goal

abbrev pub invariant-loop-word : goal.invariant-loop-word
invariant-loop-word l = all_literals (drop l.word-index l.words) ≡ all_literals l.words
