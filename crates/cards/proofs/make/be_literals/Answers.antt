use Rattle.std.proofs.Common.{pos, arith}
use Rattle.std.proofs.lemmas.List.{at_drop_more, at_drop_all}
use Rattle.std.proofs.lemmas.Bool.Decides.{nat_tests}
use Rattle.cards.specs.Literals.{all_literals}
use Rattle.cards.proofs.make.be_literals.Goals as goal

pub loop-word-preserved : goal.loop-word-preserved
unfolding all_literals
loop-word-preserved c = grind (arith, nat_tests, at_drop_more all_literals c.args.words.now c.loop-word.word-index (pos 0) c.loop-word-test.true)

pub returns : goal.returns
unfolding all_literals
returns c = grind (arith, nat_tests, at_drop_all all_literals c.args.words.now c.loop-word.word-index c.loop-word-test.false)
