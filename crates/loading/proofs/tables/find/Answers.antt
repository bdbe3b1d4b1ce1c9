use Rattle.std.proofs.Common.{sym, ◌∙◌, arith}
use Rattle.std.proofs.lemmas.List.{at_drop_more, at_drop_all}
use Rattle.words.specs.Reading.{is_word}
use Rattle.loading.specs.Lines.{find, entries}
use Rattle.loading.proofs.tables.find.Goals as goal

pub returns-then-eq : goal.returns-then-eq
unfolding is_word
returns-then-eq g c = grind (arith, at_drop_more (λ t. find (entries t) c.args.word.now) c.args.table.now c.loop-name.name-index c.loop-name-item.result c.loop-name-test.true)

pub loop-name-preserved : goal.loop-name-preserved
unfolding is_word
loop-name-preserved g c = grind (arith, at_drop_more (λ t. find (entries t) c.args.word.now) c.args.table.now c.loop-name.name-index c.loop-name-item.result c.loop-name-test.true)

pub returns : goal.returns
returns g c = sym (at_drop_all (λ t. find (entries t) c.args.word.now) c.args.table.now _ c.loop-name-test.false) ∙ c.loop-name.invariant
