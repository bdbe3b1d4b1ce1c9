use Rattle.std.proofs.Common.{◌<◌, length, sym, ap, ◌∙◌, arith}
use Rattle.runs.specs.Steps.{advanced}
use Rattle.bench.specs.Views.{bench_of, performed}
use Rattle.channels.specs.declared.desk.Out.{Out}
use Rattle.channels.proofs.Turns.{performed_ok, performed_is, performed_keeps}
use Rattle.channels.proofs.Outs.{some_same, freed_known, freed_apart}
use Rattle.channels.proofs.desk.Desk.perform.Goals as goal

pub unwrap-requires : goal.unwrap-requires
unwrap-requires g c =
    let d = c.args.self.now in
    let x = c.in-Some.out in
    performed_ok _ d.bench c.perform.new.self x.turn (d.known c.args.channel x (sym c.take.ensures.value ∙ c.in-Some.is)) performed c.perform.result c.perform.ensures.answers

pub invariant_of-self-clause-known : goal.invariant_of-self-clause-known
invariant_of-self-clause-known g c =
    let d = c.args.self.now in
    let i = c.args.channel in
    let x = c.in-Some.out in
    let at = sym c.take.ensures.value ∙ c.in-Some.is in
    let lt : i < length d.outs = omega (arith, d.eight, c.requires) in
    let keeps = performed_keeps _ d.bench c.perform.new.self x.turn (d.known i x at) performed c.perform.result c.perform.ensures.answers in
    freed_known d.outs i lt _ c.take.ensures.after d.apart x at (bench_of d.bench) (bench_of c.perform.new.self) d.known (λ y. keeps y.turn)

pub invariant_of-self-clause-apart : goal.invariant_of-self-clause-apart
invariant_of-self-clause-apart g c =
    let d = c.args.self.now in
    let lt : c.args.channel < length d.outs = omega (arith, d.eight, c.requires) in
    freed_apart d.outs c.args.channel lt _ c.take.ensures.after d.apart

pub returns-in-Some-clause-steps : goal.returns-in-Some-clause-steps
returns-in-Some-clause-steps g c x h =
    let d = c.args.self.now in
    let y = c.in-Some.out in
    let k = g.K.ValueKind.kind d.bench.kind.now in
    let at = sym c.take.ensures.value ∙ c.in-Some.is in
    performed_is k d.bench c.perform.new.self y.turn (d.known c.args.channel y at) performed c.perform.result c.perform.ensures.answers
    ∙ ap (λ (o : Out). advanced k o.turn.task (bench_of d.bench)) (some_same y x (sym at ∙ h))
