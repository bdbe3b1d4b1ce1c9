use Rattle.std.proofs.Common.{◌≡◌, ◌<◌, length, arith, sym, subst}
use Rattle.bench.specs.Views.{bench_of, going_of}
use Rattle.runs.specs.Calls as Call
use Rattle.runs.specs.Benches as Model
use Rattle.channels.specs.Outs.{Known}
use Rattle.channels.proofs.Turns.{taken_keeps, taken_other, refused_same}
use Rattle.channels.proofs.Outs.{filled_known, filled_apart}
use Rattle.channels.proofs.desk.Desk.take.Goals as goal

pub invariant_of-self-clause-known : goal.invariant_of-self-clause-known
invariant_of-self-clause-known g c =
    let d = c.args.self.now in
    let lt : c.args.channel < length d.outs = omega (arith, d.eight, c.requires.below) in
    let a = c.in-Ok.ensures.answers in
    filled_known d.outs c.args.channel lt _ _ c.put.ensures (bench_of d.bench) d.known (bench_of c.take.new.self) c.in-Ok.ensures.fits
    (λ y k. taken_keeps _ d.bench c.take.new.self c.in-Ok.turn (going_of d.going) _ (g.met.S.Scheduler.inside d.scheduler) a y.turn k)

pub invariant_of-self-clause-apart : goal.invariant_of-self-clause-apart
invariant_of-self-clause-apart g c =
    let d = c.args.self.now in
    let lt : c.args.channel < length d.outs = omega (arith, d.eight, c.requires.below) in
    let a = c.in-Ok.ensures.answers in
    filled_apart d.outs c.args.channel lt _ _ c.put.ensures (bench_of d.bench) d.known d.apart
    (λ y k. taken_other _ d.bench c.take.new.self c.in-Ok.turn (going_of d.going) _ (g.met.S.Scheduler.inside d.scheduler) a y.turn k)

pub invariant_of-self-in_default-clause-known : goal.invariant_of-self-in_default-clause-known
invariant_of-self-in_default-clause-known g c =
    let d = c.args.self.now in
    let same : bench_of c.take.new.self ≡ bench_of d.bench
    = refused_same _ d.bench c.take.new.self (Call.take (going_of d.going) _) c.in_default.field-0 c.in_default.ensures.answers in
    subst (λ (b : Model.Bench). Known d.outs b) (sym same) d.known
