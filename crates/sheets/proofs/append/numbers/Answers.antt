-- What is left to append is the text of the words not yet passed.
use Rattle.std.proofs.Common.{◌≡◌, ℕ, ◌+◌, ◌<◌, List, ◌∷◌, ◌++◌, length, get_or, drop, ℤ, sym, refl, ap, ◌∙◌, w64, SFits, to_z, of_z, rules}
use Rattle.kinds.specs.Kinds.{Kind}
use Rattle.std.specs.Fmt.{signed_decimal}
use Rattle.std.proofs.lemmas.List.{drop_more}
use Rattle.std.proofs.lemmas.Int.{to_z-of_z}
use Rattle.sheets.specs.Sheets.{numbers}
use Rattle.sheets.proofs.Steps.{then, stopped}
use Rattle.sheets.proofs.Turns.{onward, finish}
use Rattle.sheets.proofs.append.numbers.Goals as goal

next : (k : Kind) (ws : List ℕ) (i : ℕ) (z : ℤ) (digits : List ℕ) → i < length ws → z ≡ k.number (get_or ws i 0) → digits ≡ signed_decimal (to_z w64 (of_z w64 z)) → SFits w64 z → numbers k (drop i ws) ≡ digits ++ (10 ∷ numbers k (drop (i + 1) ws))
next k ws i z digits h e t f = ap (numbers k) (drop_more ws i 0 h) ∙ ap (λ x. x ++ (10 ∷ numbers k (drop (i + 1) ws))) (ap signed_decimal (sym e ∙ sym (to_z-of_z w64 z f)) ∙ sym t)

pub returns-in_err-text : goal.returns-in_err-text
returns-in_err-text g c =
    finish c.loop-word.invariant
    (stopped _ (next (g.K.ValueKind.kind c.args.kind.now) _ _ _ _ c.loop-word-test.true c.number.ensures c.format.ensures.text (search rules))
    c.from_residual.ensures.0 c.in_err-text.ensures)

pub returns-in_err-text-2 : goal.returns-in_err-text-2
returns-in_err-text-2 g c =
    finish c.loop-word.invariant
    (then (next (g.K.ValueKind.kind c.args.kind.now) _ _ _ _ c.loop-word-test.true c.number.ensures c.format.ensures.text (search rules)) c.in_ok-text.ensures
    (stopped _ refl c.from_residual-in_err-text-2.ensures.0 c.in_err-text-2.ensures))

pub loop-word-preserved : goal.loop-word-preserved
loop-word-preserved g c =
    onward _ refl
    (onward _ (next (g.K.ValueKind.kind c.args.kind.now) _ _ _ _ c.loop-word-test.true c.number.ensures c.format.ensures.text (search rules)) c.loop-word.invariant c.in_ok-text.ensures)
    c.in_ok-text-2.ensures
