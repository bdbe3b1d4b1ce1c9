use Rattle.std.proofs.Common.{arith}
use Rattle.std.proofs.lemmas.List.{at_drop_more, at_drop_all}
use Rattle.std.proofs.lemmas.Bool.Decides.{nat_tests}
use Rattle.words.specs.Numbers.{reads}
use Rattle.words.proofs.numbers.read_digits.Goals as goal

pub returns-then-not-is_ascii_digit : goal.returns-then-not-is_ascii_digit
unfolding reads
returns-then-not-is_ascii_digit c = grind (arith, nat_tests, at_drop_more (reads c.args.max c.loop-b.n) c.args.s.now c.loop-b.b-index 0 c.loop-b-test.true)

pub returns-then-n-from : goal.returns-then-n-from
unfolding reads
returns-then-n-from c = grind (arith, nat_tests, at_drop_more (reads c.args.max c.loop-b.n) c.args.s.now c.loop-b.b-index 0 c.loop-b-test.true)

pub loop-b-preserved : goal.loop-b-preserved
unfolding reads
loop-b-preserved c = grind (arith, nat_tests, at_drop_more (reads c.args.max c.loop-b.n) c.args.s.now c.loop-b.b-index 0 c.loop-b-test.true)

pub returns : goal.returns
unfolding reads
returns c = grind (arith, nat_tests, at_drop_all (reads c.args.max c.loop-b.n) c.args.s.now c.loop-b.b-index c.loop-b-test.false)
