use Rattle.std.proofs.Common.{◌≡◌, ℕ, ◌+◌, ◌<◌, true, false, List, [], length, get_or, set, vec_items, sym, refl, ap, ◌∙◌, subst, ⊎_elim, arith}
use Rattle.std.proofs.lemmas.Bool.{cond-false, cases_eq}
use Rattle.working.specs.Tasks.{Task}
use Rattle.lines.specs.declared.state.State.{State}
use Rattle.lines.specs.declared.state.State.TheVariants.{Waiting}
use Rattle.lines.specs.States.{is_finished, is_out}
use Rattle.lines.specs.Rows.{itself, put_before, absent}
use Rattle.lines.specs.Stored.{queues_of, declared_by, state_at, members_at}
use Rattle.lines.specs.Changes.{Narrower}
use Rattle.lines.proofs.Numbers.{length_enter, below_absent, there_below}
use Rattle.lines.proofs.Stores.{length_queues}
use Rattle.lines.proofs.Queued.{queued_short, queued_stored}
use Rattle.lines.proofs.Members.{members_entered}
use Rattle.lines.proofs.Unfinished.{not_out_marked}
use Rattle.lines.proofs.Holds.{Holds, holds, holds_entered, telling_entered}
use Rattle.lines.proofs.line.Line.enter.Given.{Over}
use Rattle.lines.proofs.line.Line.enter.Goals.{After-refresh}
use Rattle.lines.proofs.line.Line.enter.Goals as goal

pub enter_all-requires : goal.enter_all-requires
enter_all-requires g c =
    let m = c.mark.new.self in
    record {
      sized = omega (arith, c.requires.sized, ap length c.declarations.ensures, g.met.D.Declares.each_object c.args.child, c.mark.ensures.sized.0);
      room = λ o. omega (arith, queued_short (get_or (queues_of (vec_items m.queues)) o []) (vec_items m.order) ((holds m).queued o), m.order.ok.0, m.short, c.mark.ensures.sized.1, c.requires.room);
    }

-- the queues, before and after
long : (g : Over) (c : After-refresh g) → length (queues_of (vec_items c.enter_all.new.queues)) ≡ length (queues_of (vec_items c.mark.new.self.queues))
long g c =
    let v = c.mark.new.self.queues in
    let w = c.enter_all.new.queues in
    length_queues (vec_items w) ∙ sym w.ok.0 ∙ c.enter_all.ensures.len ∙ v.ok.0 ∙ sym (length_queues (vec_items v))

narrower : (g : Over) (c : After-refresh g) → Narrower (declared_by (queues_of (vec_items c.mark.new.self.queues)) c.args.maker) c.declarations.result.now
narrower g c = subst (λ v. Narrower (declared_by (queues_of (vec_items v)) c.args.maker) c.declarations.result.now) (sym c.mark.ensures.kept.1) (subst (Narrower (declared_by (queues_of (vec_items c.args.self.now.queues)) c.args.maker)) (sym c.declarations.ensures) c.requires.narrower)

few : (g : Over) (c : After-refresh g) → c.mark.new.self.made < 256
few g c = omega (arith, c.mark.ensures.sized.1, c.requires.room)

pub invariant_of-self : goal.invariant_of-self
invariant_of-self g c =
    let s = c.args.self.now in
    let m = c.mark.new.self in
    let row = c.put_before.new.row in
    let qs = queues_of (vec_items c.enter_all.new.queues) in
    let ss = set m.states m.made Waiting in
    let lt : c.args.maker < length s.states = omega (arith, s.numbers) in
    let in_line : is_out (state_at m.states c.args.maker) ≡ false = ap (λ (l : List State). is_out (state_at l c.args.maker)) c.mark.ensures.states ∙ not_out_marked s.states c.args.maker Waiting lt refl in
    let h : Holds (vec_items row) qs ss (m.made + 1)
    = subst (λ (ns : List ℕ). Holds ns qs ss (m.made + 1)) (sym c.put_before.ensures.items) (holds_entered (holds m) c.args.maker (few g c) c.declarations.result.now (narrower g c) qs (long g c) c.enter_all.ensures.items in_line) in
    let longer : length (vec_items row) ≡ length (vec_items m.order) + 1 = ap length c.put_before.ensures.items ∙ length_enter m.made c.args.maker (vec_items m.order) in
    record {
      few = omega (arith, c.mark.ensures.sized.1, c.requires.room);
      short = omega (arith, m.short, m.order.ok.0, row.ok.0, longer);
      room = omega (arith, c.put_before.ensures.capacity, m.room);
      objects = omega (arith, c.enter_all.ensures.len, m.objects);
      numbers = h.numbers;
      known = h.known;
      once = h.once;
      unfinished = h.left;
      stored = queued_stored qs ss (vec_items row) h.queued;
      turns = h.turns;
      flags = c.refresh.ensures;
    }

pub returns-clause-line : goal.returns-clause-line
returns-clause-line g c =
    let f = (goal.at.returns-clause-line g c).After-refresh in
    let s = c.args.self.now in
    let m = c.mark.new.self in
    let n = m.made in
    let ns = vec_items s.order in
    let there : absent itself c.args.maker ns ≡ false = s.unfinished c.args.maker ∙ c.requires.live in
    let fresh : absent itself n ns ≡ true = ap (λ (k : ℕ). absent itself k ns) c.mark.ensures.sized.1 ∙ below_absent s.made ns s.known in
    let in_n : c.args.maker < length s.states = omega (arith, s.numbers) in
    let in_c : n < length s.states = omega (arith, s.numbers, few g f) in
    λ t u but.
    ap (members_at (set m.states n Waiting) u) (c.put_before.ensures.items ∙ ap (λ v. put_before itself c.args.maker n (vec_items v)) c.mark.ensures.kept.0)
    ∙ members_entered s.states t u ns s.once c.args.maker n but (λ e. omega (arith, e, c.mark.ensures.sized.1, there_below s.made c.args.maker ns s.known there)) there fresh in_n in_c (set m.states n Waiting)
    (ap (λ (l : List State). set l n Waiting) (c.mark.ensures.states ∙ cond-false (is_finished (state_at s.states c.args.maker)) s.states (set s.states c.args.maker Waiting) c.requires.live))

pub returns-clause-tells : goal.returns-clause-tells
returns-clause-tells g c =
    let f = (goal.at.returns-clause-tells g c).After-refresh in
    let m = c.mark.new.self in
    let r = c.declarations.result.now in
    let qs = queues_of (vec_items c.enter_all.new.queues) in
    let wide : length r ≡ length (queues_of (vec_items m.queues)) = omega (arith, c.requires.sized, ap length c.declarations.ensures, g.met.D.Declares.each_object c.args.child, c.mark.ensures.sized.0, m.queues.ok.0, length_queues (vec_items m.queues)) in
    λ t u but same is tells.
    telling_entered (holds m) c.args.maker (few g f) r (narrower g f) qs (long g f) c.enter_all.ensures.items t u wide
    (λ k ne. ⊎_elim (λ e. ap (λ (j : ℕ). (u j).declared) e ∙ same ∙ ap (λ (j : ℕ). (t j).declared) (sym e)) (λ g. ap (λ (x : Task). x.declared) (but k g ne)) (cases_eq k c.args.maker))
    (is ∙ sym c.declarations.ensures) (c.mark.ensures.tells t t (λ k ne. refl) refl tells)
