use Rattle.std.proofs.Common.{refl, arith}
use Rattle.cards.specs.Cards.{card_of}
use Rattle.cards.specs.Literals.{Literals}
use Rattle.bench.proofs.Histories.{promises}
use Rattle.bench.proofs.Opened.{alone_declares, opened_history, first_told, first_numbered, first_sized, first_left, first_bench}
use Rattle.bench.proofs.bench.Bench.open.Goals as goal

pub new-requires : goal.new-requires
new-requires g c =
    let s = c.in_ok-tasks.tasks in
    omega (arith, s.objects, s.store.ok.0, alone_declares s _ c.declared.result.now c.in_ok-tasks.ensures.1 c.declared.ensures)

pub invariant_of-bench : goal.invariant_of-bench
invariant_of-bench g c =
    let card = c.args.card.now in
    let k = g.K.ValueKind.kind c.args.kind.now in
    let s = c.in_ok-tasks.tasks in
    let o = c.in_ok-tasks.ensures in
    let l = c.in_ok-line.line in
    let e = c.in_ok-line.ensures in
    let ds = c.declared.result.now in
    record {
      told = first_told k (card_of card) s o.0 o.1 l ds c.declared.ensures e.line e.tells e.sized;
      numbered = first_numbered k (card_of card) s o.0 o.1 l ds c.declared.ensures e.line e.tells e.sized;
      objects = first_sized k (card_of card) s o.0 o.1 l ds c.declared.ensures e.line e.tells e.sized;
      within = omega (arith, card.steps, first_left k (card_of card) s o.0 o.1 l ds c.declared.ensures e.line e.tells e.sized);
      room = omega (arith, c.in_ok-page.ensures.capacity);
    }

pub returns : goal.returns
returns g c =
    let card = c.args.card.now in
    let k = g.K.ValueKind.kind c.args.kind.now in
    let s = c.in_ok-tasks.tasks in
    let o = c.in_ok-tasks.ensures in
    let l = c.in_ok-line.line in
    let e = c.in_ok-line.ensures in
    let is = first_bench k (card_of card) s o.0 o.1 l c.declared.result.now c.declared.ensures e.line e.tells e.sized c.args.run in
    let ls : Literals (card_of card) = record { words = card.literals; body = card.body_literals } in
    record {
      bench = is;
      state = refl;
      kind = refl;
      promises = promises k (card_of card) c.args.run (g.met.K.ValueKind.lawful c.args.kind.now) ls;
      history = opened_history k (card_of card) c.args.run _ ls is;
    }
