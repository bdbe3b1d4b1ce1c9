use Rattle.std.proofs.Common.{◌≡◌, ℕ, List, [], ◌∷◌, ◌++◌, length, get_or, vec_items, sym, ap, ◌∙◌, subst, arith}
use Rattle.lines.specs.Stored.{queues_of, members_at}
use Rattle.lines.proofs.Stores.{length_queues, getD_empty}
use Rattle.lines.proofs.Queued.{queued_stored}
use Rattle.lines.proofs.Holds.{Holds, first_states, line_new, holds_new, telling_new}
use Rattle.lines.proofs.line.Line.new.Given.{Over}
use Rattle.lines.proofs.line.Line.new.Goals.{After-refresh}
use Rattle.lines.proofs.line.Line.new.Goals as goal

pub enter_all-requires : goal.enter_all-requires
enter_all-requires g c =
    let r = c.declarations-declared.result.now in
    let q = c.in_ok-queues.ensures in
    record {
      sized = omega (arith, q.0);
      room = λ o. omega (arith, ap length (getD_empty (queues_of (vec_items c.in_ok-queues.queues)) (length r) o q.1));
    }

items : (g : Over) (c : After-refresh g) → vec_items c.push_reserved.new.self ≡ 0 ∷ []
items g c = c.push_reserved.ensures.items ∙ ap (λ (l : List ℕ). l ++ 0 ∷ []) c.in_ok-order.ensures.items

empty : (g : Over) (c : After-refresh g) (o : ℕ) → get_or (queues_of (vec_items c.in_ok-queues.queues)) o [] ≡ []
empty g c o = getD_empty (queues_of (vec_items c.in_ok-queues.queues)) (length c.declarations-declared.result.now) o c.in_ok-queues.ensures.1

pub invariant_of-result : goal.invariant_of-result
invariant_of-result g c =
    let o = c.in_ok-order.ensures in
    let row = c.push_reserved.new.self in
    let qs = queues_of (vec_items c.enter_all.new.queues) in
    let h : Holds (vec_items row) qs first_states 1
    = subst (λ (ns : List ℕ). Holds ns qs first_states 1) (sym (items g c)) (holds_new c.declarations-declared.result.now (queues_of (vec_items c.in_ok-queues.queues)) qs (empty g c) c.enter_all.ensures.items) in
    record {
      few = omega arith;
      short = omega (arith, row.ok.0, ap length (items g c));
      room = omega (arith, c.push_reserved.ensures.capacity, o.capacity);
      objects = omega (arith, c.enter_all.ensures.len, c.in_ok-queues.ensures.0, c.requires, ap length c.declarations-declared.ensures, g.met.D.Declares.each_object c.args.main);
      numbers = h.numbers;
      known = h.known;
      once = h.once;
      unfinished = h.left;
      stored = queued_stored qs first_states (vec_items row) h.queued;
      turns = h.turns;
      flags = c.refresh.ensures;
    }

pub returns-clause-line : goal.returns-clause-line
returns-clause-line g c =
    let f = (goal.at.returns-clause-line g c).After-refresh in
    λ t. ap (members_at first_states t) (items g f) ∙ line_new t

pub returns-clause-tells : goal.returns-clause-tells
returns-clause-tells g c =
    let f = (goal.at.returns-clause-tells g c).After-refresh in
    let r = c.declarations-declared.result.now in
    let v = c.enter_all.new.queues in
    let wide : length r ≡ length (queues_of (vec_items v)) = omega (arith, c.enter_all.ensures.len, c.in_ok-queues.ensures.0, v.ok.0, length_queues (vec_items v)) in
    λ t is. telling_new r (queues_of (vec_items c.in_ok-queues.queues)) (queues_of (vec_items v)) wide (empty g f) c.enter_all.ensures.items t (is ∙ sym c.declarations-declared.ensures)
