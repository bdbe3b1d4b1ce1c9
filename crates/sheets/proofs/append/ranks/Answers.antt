-- What is left to append is the text of the ranks not yet passed.
use Rattle.std.proofs.Common.{◌≡◌, ℕ, ◌+◌, ◌<◌, List, ◌∷◌, ◌++◌, length, get_or, drop, decimal, sym, refl, ap, ◌∙◌}
use Rattle.std.proofs.lemmas.List.{drop_more}
use Rattle.sheets.specs.Sheets.{ranks_text}
use Rattle.sheets.proofs.Steps.{then, stopped}
use Rattle.sheets.proofs.Turns.{finish}
use Rattle.sheets.proofs.append.ranks.Goals as goal

next : (ns : List ℕ) (i : ℕ) (digits : List ℕ) → i < length ns → digits ≡ decimal (get_or ns i 0) → ranks_text (drop i ns) ≡ 46 ∷ (digits ++ ranks_text (drop (i + 1) ns))
next ns i digits h e = ap ranks_text (drop_more ns i 0 h) ∙ ap (λ x. 46 ∷ (x ++ ranks_text (drop (i + 1) ns))) (sym e)

pub returns-in_err-text : goal.returns-in_err-text
returns-in_err-text c =
    finish c.loop-rank.invariant (stopped _ (next _ _ _ c.loop-rank-test.true refl) c.from_residual.ensures.0 c.in_err-text.ensures)

pub returns-in_err-text-2 : goal.returns-in_err-text-2
returns-in_err-text-2 c =
    finish c.loop-rank.invariant
    (then (next _ _ _ c.loop-rank-test.true c.format.ensures.text) c.in_ok-text.ensures
    (stopped _ refl c.from_residual-in_err-text-2.ensures.0 c.in_err-text-2.ensures))
