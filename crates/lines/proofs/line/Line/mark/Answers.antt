use Rattle.std.proofs.Common.{◌<◌, List, length, vec_items, sym, ap, ◌∙◌, subst, arith}
use Rattle.lines.specs.declared.state.State.{State}
use Rattle.lines.specs.Stored.{queues_of, members_at}
use Rattle.lines.proofs.Queued.{queued_stored}
use Rattle.lines.proofs.Members.{members_marked}
use Rattle.lines.proofs.Holds.{Holds, Telling, holds, holds_marked, telling_marked}
use Rattle.lines.proofs.line.Line.mark.Goals as goal

pub invariant_of-self : goal.invariant_of-self
invariant_of-self c =
    let s = c.args.self.now in
    let lt : c.args.n < 256 = omega arith in
    let ss = c.put_state.new.states in
    let h : Holds (vec_items s.order) (queues_of (vec_items s.queues)) ss s.made
    = subst (λ (l : List State). Holds (vec_items s.order) (queues_of (vec_items s.queues)) l s.made) (sym c.put_state.ensures) (holds_marked (holds s) c.args.n c.args.state c.requires.stays (λ e. sym (s.flags c.args.n lt) ∙ c.requires.clear e)) in
    record {
      few = s.few;
      short = s.short;
      room = s.room;
      objects = s.objects;
      numbers = h.numbers;
      known = h.known;
      once = h.once;
      unfinished = h.left;
      stored = queued_stored (queues_of (vec_items s.queues)) ss (vec_items s.order) h.queued;
      turns = h.turns;
      flags = s.flags;
    }

pub returns-clause-line : goal.returns-clause-line
returns-clause-line c =
    let s = c.args.self.now in
    let lt : c.args.n < length s.states = omega (arith, s.numbers) in
    λ t u but. ap (λ (l : List State). members_at l u (vec_items s.order)) c.put_state.ensures ∙ members_marked s.states t u (vec_items s.order) s.once c.args.n but c.args.state lt (s.unfinished c.args.n)

pub returns-clause-tells : goal.returns-clause-tells
returns-clause-tells c =
    let s = c.args.self.now in
    let qs = queues_of (vec_items s.queues) in
    λ t u but same tells. subst (λ (l : List State). Telling qs l u) (sym c.put_state.ensures) (telling_marked qs s.states t u c.args.n c.args.state c.requires.stays but same tells)
