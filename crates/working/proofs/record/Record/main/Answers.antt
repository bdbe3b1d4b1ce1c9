use Rattle.std.proofs.Common.{◌≡◌, ℕ, ◌≤◌, List, [], ◌∷◌, length, take, replicate, pos, ap, ◌∙◌, arith}
use Rattle.std.proofs.lemmas.List.{take-replicate}
use Rattle.cards.specs.Code.{Block}
use Rattle.cards.specs.Trees.{block_of}
use Rattle.working.specs.Tasks.{Declared, Task, everything, main}
use Rattle.working.proofs.record.Record.main.Goals as goal

abbrev begins : Block → ℕ → List Declared → Task
begins b z ds = record { place = []; words = z ∷ z ∷ z ∷ z ∷ []; pointers = replicate 4 0; declared = ds; work = b; children = 0 }

pub returns : goal.returns
unfolding main
returns g c =
    let d = c.args.card.now in
    let z = (g.K.ValueKind.kind c.args.kind.now).literal (pos 0) in
    let n = length d.words.items in
    let e : length c.words.result.now ≡ n = ap length c.words.ensures in
    let few : n ≤ 16 = omega (arith, d.objects, d.words.ok.0) in
    record {
      task =
          ap (λ (x : ℕ). begins (block_of d.body) x (take (length c.words.result.now) (replicate 16 everything))) c.literal-zero.ensures
          ∙ ap (λ (i : ℕ). begins (block_of d.body) z (take i (replicate 16 everything))) e
          ∙ ap (begins (block_of d.body) z) (take-replicate n 16 everything few);
      objects = e;
    }
