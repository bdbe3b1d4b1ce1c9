use Rattle.std.proofs.Common.{◌<◌, length, sym, ◌∙◌, arith}
use Rattle.runs.specs.Calls.{Answer}
use Rattle.bench.specs.Views.{bench_of}
use Rattle.channels.proofs.Turns.{returned_ok, returned_keeps}
use Rattle.channels.proofs.Outs.{freed_known, freed_apart}
use Rattle.channels.proofs.desk.Desk.hand_back.Goals as goal

pub unwrap-requires : goal.unwrap-requires
unwrap-requires g c =
    let d = c.args.self.now in
    let x = c.in-Some.out in
    returned_ok _ d.bench c.hand_back.new.self x.turn (d.known c.args.channel x (sym c.take.ensures.value ∙ c.in-Some.is)) (λ _. Answer.returned) c.hand_back.result c.hand_back.ensures.answers

pub invariant_of-self-clause-known : goal.invariant_of-self-clause-known
invariant_of-self-clause-known g c =
    let d = c.args.self.now in
    let i = c.args.channel in
    let x = c.in-Some.out in
    let at = sym c.take.ensures.value ∙ c.in-Some.is in
    let lt : i < length d.outs = omega (arith, d.eight, c.requires) in
    let keeps = returned_keeps _ d.bench c.hand_back.new.self x.turn (d.known i x at) (λ _. Answer.returned) c.hand_back.result c.hand_back.ensures.answers in
    freed_known d.outs i lt _ c.take.ensures.after d.apart x at (bench_of d.bench) (bench_of c.hand_back.new.self) d.known (λ y. keeps y.turn)

pub invariant_of-self-clause-apart : goal.invariant_of-self-clause-apart
invariant_of-self-clause-apart g c =
    let d = c.args.self.now in
    let lt : c.args.channel < length d.outs = omega (arith, d.eight, c.requires) in
    freed_apart d.outs c.args.channel lt _ c.take.ensures.after d.apart
