use Rattle.std.proofs.Common.{◌≡◌, length, inl, inr, arith}
use Rattle.schedulers.specs.Rounds.{nearest_none, nearest_more, nearest_skipped, nearest_offered}
use Rattle.schedulers.proofs.turns.nearest.Goals as goal
use Rattle.schedulers.proofs.turns.nearest.Goals.{then-n-lt-ROUND, else-n-lt-ROUND}

pub loop-n-init : goal.loop-n-init
loop-n-init c = nearest_none _ _

pub loop-n-preserved : goal.loop-n-preserved
loop-n-preserved c =
    nearest_more c.if-n-lt-ROUND.ahead _ c.loop-n.invariant
    (elim c.if-n-lt-ROUND.branch [
      | then-n-lt-ROUND w ↦ inl (w.if-n-lt-ROUND.true, omega arith)
      | else-n-lt-ROUND w ↦ inr (w.if-n-lt-ROUND.false, w.ahead-is)
    ])
    c.min-least.ensures

pub returns : goal.returns
returns c =
    let xs = c.args.offer.now in
    let end : c.loop-n.n-index ≡ length xs = omega arith in
    let n = rw end at c.loop-n.invariant in
    record {
      within = n.within;
      skipped = nearest_skipped c.args.k xs _ c.requires n;
      offered = nearest_offered c.args.k xs _ c.requires n;
    }
