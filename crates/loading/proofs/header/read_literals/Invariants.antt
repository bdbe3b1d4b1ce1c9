use Rattle.std.proofs.Common.{◌≡◌, ◌+◌, ◌-◌, [], vec_items, vec_len}
use Rattle.loading.specs.Texts.{rest_of, text_number}
use Rattle.loading.specs.Headers.{literals_after}
use Rattle.loading.proofs.header.read_literals.Given as goal

abbrev pub invariant-loop-i : goal.invariant-loop-i
invariant-loop-i l =
    (literals_after l.count [] (rest_of l.initial.lines) (text_number l.initial.lines) ≡ literals_after (l.count - l._i) (vec_items l.literals) (rest_of l.lines) (text_number l.lines))
    × (text_number l.lines ≡ text_number l.initial.lines + l._i)
    × (vec_len l.literals ≡ l._i)
