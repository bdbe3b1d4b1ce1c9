use Rattle.std.proofs.Common.{◌≡◌, ◌<◌, false, List, length, vec_items, sym, refl, ap, ◌∙◌, subst, arith}
use Rattle.lines.specs.declared.state.State.{State}
use Rattle.lines.specs.declared.state.State.TheVariants.{Waiting}
use Rattle.lines.specs.States.{is_out}
use Rattle.lines.specs.Stored.{queues_of, declared_by, state_at}
use Rattle.lines.specs.Changes.{Narrower}
use Rattle.lines.proofs.Stores.{length_queues}
use Rattle.lines.proofs.Queued.{queued_stored}
use Rattle.lines.proofs.Unfinished.{not_out_marked}
use Rattle.lines.proofs.Holds.{Holds, holds, holds_redeclared, telling_redeclared}
use Rattle.lines.proofs.line.Line.redeclare.Given.{Over}
use Rattle.lines.proofs.line.Line.redeclare.Goals.{After-refresh}
use Rattle.lines.proofs.line.Line.redeclare.Goals as goal

-- the queues, before and after
long : (g : Over) (c : After-refresh g) → length (queues_of (vec_items c.redeclare_all.new.queues)) ≡ length (queues_of (vec_items c.mark.new.self.queues))
long g c =
    let v = c.mark.new.self.queues in
    let w = c.redeclare_all.new.queues in
    length_queues (vec_items w) ∙ sym w.ok.0 ∙ c.redeclare_all.ensures.len ∙ v.ok.0 ∙ sym (length_queues (vec_items v))

narrower : (g : Over) (c : After-refresh g) → Narrower (declared_by (queues_of (vec_items c.mark.new.self.queues)) c.args.n) c.declarations.result.now
narrower g c = subst (λ v. Narrower (declared_by (queues_of (vec_items v)) c.args.n) c.declarations.result.now) (sym c.mark.ensures.kept.1) (subst (Narrower (declared_by (queues_of (vec_items c.args.self.now.queues)) c.args.n)) (sym c.declarations.ensures) c.requires.narrower)

pub invariant_of-self : goal.invariant_of-self
invariant_of-self g c =
    let s = c.args.self.now in
    let m = c.mark.new.self in
    let qs = queues_of (vec_items c.redeclare_all.new.queues) in
    let lt : c.args.n < length s.states = omega (arith, s.numbers) in
    let in_line : is_out (state_at m.states c.args.n) ≡ false = ap (λ (l : List State). is_out (state_at l c.args.n)) c.mark.ensures.states ∙ not_out_marked s.states c.args.n Waiting lt refl in
    let h : Holds (vec_items m.order) qs m.states m.made = holds_redeclared (holds m) c.args.n c.declarations.result.now (narrower g c) qs (long g c) c.redeclare_all.ensures.items in_line in
    record {
      few = m.few;
      short = m.short;
      room = m.room;
      objects = omega (arith, c.redeclare_all.ensures.len, m.objects);
      numbers = h.numbers;
      known = h.known;
      once = h.once;
      unfinished = h.left;
      stored = queued_stored qs m.states (vec_items m.order) h.queued;
      turns = h.turns;
      flags = c.refresh.ensures;
    }

pub returns-clause-tells : goal.returns-clause-tells
returns-clause-tells g c =
    let f = (goal.at.returns-clause-tells g c).After-refresh in
    let m = c.mark.new.self in
    let r = c.declarations.result.now in
    let qs = queues_of (vec_items c.redeclare_all.new.queues) in
    let wide : length r ≡ length (queues_of (vec_items m.queues)) = omega (arith, c.requires.sized, ap length c.declarations.ensures, g.met.D.Declares.each_object c.args.task, c.mark.ensures.sized.0, m.queues.ok.0, length_queues (vec_items m.queues)) in
    λ t u but is tells. telling_redeclared (holds m) c.args.n r (narrower g f) qs (long g f) c.redeclare_all.ensures.items t u wide but (is ∙ sym c.declarations.ensures) (c.mark.ensures.tells t t (λ k ne. refl) refl tells)
