use Rattle.std.proofs.Common.{◌≡◌, ℕ, ◌<◌, List, length, set, vec_items, sym, ap, ◌∙◌, subst, arith}
use Rattle.lines.specs.declared.state.State.TheVariants.{Finished}
use Rattle.lines.specs.Rows.{itself, without}
use Rattle.lines.specs.Stored.{queues_of, members_at}
use Rattle.lines.proofs.Numbers.{length_out}
use Rattle.lines.proofs.Stores.{length_queues}
use Rattle.lines.proofs.Queued.{queued_stored}
use Rattle.lines.proofs.Members.{members_finished}
use Rattle.lines.proofs.Holds.{Holds, holds, holds_finished, telling_finished}
use Rattle.lines.proofs.line.Line.finish.Goals as goal

pub invariant_of-self : goal.invariant_of-self
invariant_of-self c =
    let s = c.args.self.now in
    let row = c.take_out.new.row in
    let v = c.leave_all.new.queues in
    let lt : c.args.n < 256 = omega arith in
    let long : length (queues_of (vec_items v)) ≡ length (queues_of (vec_items s.queues)) = length_queues (vec_items v) ∙ sym v.ok.0 ∙ c.leave_all.ensures.len ∙ s.queues.ok.0 ∙ sym (length_queues (vec_items s.queues)) in
    let h : Holds (vec_items row) (queues_of (vec_items v)) (set s.states c.args.n Finished) s.made
    = subst (λ (ns : List ℕ). Holds ns (queues_of (vec_items v)) (set s.states c.args.n Finished) s.made) (sym c.take_out.ensures.items) (holds_finished (holds s) c.args.n lt (queues_of (vec_items v)) long c.leave_all.ensures.items) in
    let shorter : length (vec_items row) ≡ length (without itself c.args.n (vec_items s.order)) = ap length c.take_out.ensures.items in
    record {
      few = s.few;
      short = omega (arith, s.short, s.order.ok.0, row.ok.0, shorter, length_out c.args.n (vec_items s.order));
      room = omega (arith, c.take_out.ensures.capacity, s.room);
      objects = omega (arith, s.objects, c.leave_all.ensures.len);
      numbers = h.numbers;
      known = h.known;
      once = h.once;
      unfinished = h.left;
      stored = queued_stored (queues_of (vec_items v)) (set s.states c.args.n Finished) (vec_items row) h.queued;
      turns = h.turns;
      flags = c.refresh.ensures;
    }

pub returns-clause-line : goal.returns-clause-line
returns-clause-line c =
    let s = c.args.self.now in
    λ t u but. ap (members_at (set s.states c.args.n Finished) u) c.take_out.ensures.items ∙ members_finished s.states t u (vec_items s.order) s.once c.args.n but Finished

pub returns-clause-tells : goal.returns-clause-tells
returns-clause-tells c =
    let s = c.args.self.now in
    let v = c.leave_all.new.queues in
    let lt : c.args.n < 256 = omega arith in
    let long : length (queues_of (vec_items v)) ≡ length (queues_of (vec_items s.queues)) = length_queues (vec_items v) ∙ sym v.ok.0 ∙ c.leave_all.ensures.len ∙ s.queues.ok.0 ∙ sym (length_queues (vec_items s.queues)) in
    λ t u but tells. telling_finished (holds s) c.args.n lt (queues_of (vec_items v)) long c.leave_all.ensures.items t u but tells
