-- What is offered can be taken, and a task that has its turn out stands in the line.
use Rattle.std.proofs.Common.{Some, ◌≡◌, ℕ, ◌<◌, true, false, List, length, get_or, vec_items, filter, sym, refl, ap, ◌∙◌, subst, arith}
use Rattle.std.proofs.ByRecursion.{All-get_or, kept_by_passes}
use Rattle.std.proofs.lemmas.Bool.{and_parts, and_from}
use Rattle.working.specs.Tasks.{Task}
use Rattle.runs.specs.Lines.{out, member, find}
use Rattle.runs.specs.Ready.{ready, offered}
use Rattle.runs.specs.Events.{can_take, has_turn}
use Rattle.lines.specs.declared.line.Line.{Line}
use Rattle.lines.specs.declared.state.State.{State}
use Rattle.lines.specs.declared.state.State.TheVariants.{Finished, Waiting, Out, Stuck}
use Rattle.lines.specs.States.{is_finished, is_waiting, is_out}
use Rattle.lines.specs.Stored.{queues_of, state_at}
use Rattle.lines.specs.Clears.{clear_in}
use Rattle.lines.specs.Offers.{offers}
use Rattle.lines.specs.Lines.{line_of, Tells}
use Rattle.lines.proofs.Numbers.{there_below}
use Rattle.lines.proofs.Standing.{out_live, found_out, turn_is}
use Rattle.lines.proofs.Readies.{out_ready, can_take_is, offered_is}
use Rattle.lines.proofs.Holds.{holds, told}

-- a task that is not finished was made
pub live_made : (l : Line) (n : ℕ) → is_finished (state_at l.states n) ≡ false → n < l.made
live_made l n e = there_below l.made n (vec_items l.order) l.known (l.unfinished n ∙ e)

module _ (l : Line) (t : ℕ → Task) (n : ℕ) (turn : has_turn n (line_of l t) ≡ true) where
  turn_out : is_out (state_at l.states n) ≡ true
  turn_out = turn_is l.states (vec_items l.order) t l.unfinished n ∙ turn

  pub turn_live : is_finished (state_at l.states n) ≡ false
  turn_live = out_live (state_at l.states n) turn_out

  pub turn_made : n < l.made
  turn_made = live_made l n turn_live

  pub turn_found : find n (line_of l t) ≡ Some (member n out (t n))
  turn_found = found_out l.states (vec_items l.order) t l.unfinished n turn_out

  pub turn_ready : Tells l t → ready (line_of l t) (member n out (t n)) ≡ true
  turn_ready tells = out_ready (queues_of (vec_items l.queues)) l.states (vec_items l.order) t (holds l).queued l.once (told (holds l) t tells) l.unfinished l.turns n turn_out

waiting_live : (s : State) → is_waiting s ≡ true → is_finished s ≡ false
waiting_live Finished e = sym e
waiting_live Waiting e = refl
waiting_live Out e = refl
waiting_live (Stuck f) e = refl

module _ (l : Line) (t : ℕ → Task) (tells : Tells l t) where
  offers_takes : (n : ℕ) → offers l.states l.clear n ≡ true → can_take n (line_of l t) ≡ true
  unfolding offers
  offers_takes n e =
      let p = and_parts (is_waiting (state_at l.states n)) (get_or l.clear n false) e in
      let lt : n < 256 = omega (arith, live_made l n (waiting_live (state_at l.states n) p.0), l.few) in
      can_take_is (queues_of (vec_items l.queues)) l.states (vec_items l.order) t (holds l).queued l.once (told (holds l) t tells) l.unfinished n
      ∙ and_from (is_waiting (state_at l.states n)) (clear_in (queues_of (vec_items l.queues)) n) p.0 (sym (l.flags n lt) ∙ p.1)

  pub offered_takes : (i : ℕ) → i < length (offered (line_of l t) (line_of l t)) → can_take (get_or (offered (line_of l t) (line_of l t)) i 0) (line_of l t) ≡ true
  offered_takes i lt =
      let e = offered_is (queues_of (vec_items l.queues)) l.states (vec_items l.order) t l.clear l.made (holds l).queued l.once (told (holds l) t tells) l.unfinished l.known l.few l.flags in
      let kept = filter (offers l.states l.clear) (vec_items l.order) in
      let here : i < length kept = omega (arith, ap length e) in
      subst (λ (ns : List ℕ). can_take (get_or ns i 0) (line_of l t) ≡ true) e
      (offers_takes (get_or kept i 0) (All-get_or (λ n. offers l.states l.clear n ≡ true) kept i 0 here (kept_by_passes (offers l.states l.clear) (vec_items l.order))))
