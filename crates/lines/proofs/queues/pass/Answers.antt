use Rattle.std.proofs.Common.{Bool, false, ◌&&◌, get_or, ap, ◌∙◌, arith, length-set}
use Rattle.std.proofs.lemmas.List.{get_or_default}
use Rattle.lines.proofs.Passes.{no_entry, pass_more, pass_all}
use Rattle.lines.proofs.queues.pass.Goals as goal

pub loop-e-preserved : goal.loop-e-preserved
loop-e-preserved c =
    let e = get_or c.args.entries.now c.loop-e.e-index no_entry in
    let flag : Bool = get_or c.loop-e.clear e.number false in (
      length-set _ _ _ ∙ c.loop-e.invariant.0,
      λ n. pass_more c.args.entries.now c.loop-e.e-index e c.loop-e.clear c.loop-e.so_far c.past-so_far.result (flag && c.lets.result) n
          c.loop-e-test.true (omega (arith, c.loop-e.invariant.0)) (get_or_default c.args.entries.now c.loop-e.e-index no_entry _ c.loop-e-test.true)
          (ap (λ (x : Bool). flag && x) c.lets.ensures)
          c.past-so_far.ensures
          ∙ c.loop-e.invariant.1 n,
    )

pub returns : goal.returns
returns c = λ n lt. pass_all c.args.entries.now c.loop-e.e-index c.loop-e.so_far n (get_or c.loop-e.clear n false) _ c.loop-e-test.false (c.loop-e.invariant.1 n)
