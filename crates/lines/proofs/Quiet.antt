-- A task that waits goes on waiting, with the same declarations: the line is as it was.
use Rattle.std.proofs.Common.{Some, ◌≡◌, ℕ, ◌<◌, Bool, true, false, cond, List, [], ◌∷◌, length, set, vec_items, sym, refl, ap, ◌∙◌, subst, ⊎_elim, arith}
use Rattle.std.proofs.lemmas.List.{set-get_or}
use Rattle.std.proofs.lemmas.Bool.{and_parts, both_ways, cases_eq}
use Rattle.working.specs.declared.declared.Declared.{Declared}
use Rattle.working.specs.Tasks.{Task}
use Rattle.runs.specs.Lines.{waiting, member, find, replace}
use Rattle.runs.specs.Events.{can_take}
use Rattle.lines.specs.declared.line.Line.{Line}
use Rattle.lines.specs.declared.state.State.{State}
use Rattle.lines.specs.declared.state.State.TheVariants.{Finished, Waiting, Out, Stuck}
use Rattle.lines.specs.States.{is_finished, is_waiting}
use Rattle.lines.specs.Same.{same_declarations}
use Rattle.lines.specs.Stored.{queues_of, state_at, marked, members_at}
use Rattle.lines.specs.Clears.{clear_in}
use Rattle.lines.specs.Lines.{declarations, line_of, Tells, But}
use Rattle.lines.proofs.Members.{members_marked}
use Rattle.lines.proofs.Standing.{found_waiting}
use Rattle.lines.proofs.Readies.{can_take_is}
use Rattle.lines.proofs.Holds.{holds, told}
use Rattle.lines.proofs.Offered.{live_made}

waits_is : (s : State) → is_waiting s ≡ true → s ≡ Waiting
waits_is Finished e = absurd (both_ways false refl e)
waits_is Waiting e = refl
waits_is Out e = absurd (both_ways false refl e)
waits_is (Stuck f) e = absurd (both_ways false refl e)

-- a task that can be taken waits
module _ (l : Line) (t : ℕ → Task) (n : ℕ) (tells : Tells l t) (can : can_take n (line_of l t) ≡ true) where
  waits : is_waiting (state_at l.states n) ≡ true
  waits =
      (and_parts (is_waiting (state_at l.states n)) (clear_in (queues_of (vec_items l.queues)) n)
      (sym (can_take_is (queues_of (vec_items l.queues)) l.states (vec_items l.order) t (holds l).queued l.once (told (holds l) t tells) l.unfinished n) ∙ can)).0

  pub take_waits : state_at l.states n ≡ Waiting
  take_waits = waits_is (state_at l.states n) waits

  pub take_live : is_finished (state_at l.states n) ≡ false
  take_live = ap is_finished take_waits

  pub take_made : n < l.made
  take_made = live_made l n take_live

  pub take_found : find n (line_of l t) ≡ Some (member n waiting (t n))
  take_found = found_waiting l.states (vec_items l.order) t l.unfinished n waits

-- to mark it as waiting changes nothing
marked_same : (ss : List State) (n : ℕ) → state_at ss n ≡ Waiting → marked ss n Waiting ≡ ss
marked_same ss n e = go (is_finished (state_at ss n))
  where
    go : (b : Bool) → cond b ss (set ss n Waiting) ≡ ss
    go true = refl
    go false = ap (set ss n) (sym e) ∙ set-get_or ss n Finished

pub quiet_line : (l : Line) (t u : ℕ → Task) (n : ℕ) → state_at l.states n ≡ Waiting → But n t u → line_of l u ≡ replace n (member n waiting (u n) ∷ []) (line_of l t)
quiet_line l t u n w but =
    let lt : n < length l.states = omega (arith, live_made l n (ap is_finished w), l.few, l.numbers) in
    ap (λ (ss : List State). members_at ss u (vec_items l.order)) (sym (marked_same l.states n w))
    ∙ members_marked l.states t u (vec_items l.order) l.once n but Waiting lt (l.unfinished n)

pub quiet_tells : (l : Line) (t u : ℕ → Task) (n : ℕ) → But n t u → (u n).declared ≡ (t n).declared → Tells l t → Tells l u
quiet_tells l t u n but same tells m live =
    let kept : (t m).declared ≡ (u m).declared = ⊎_elim (λ e. ap (λ (i : ℕ). (t i).declared) e ∙ sym same ∙ ap (λ (i : ℕ). (u i).declared) (sym e)) (λ ne. ap (λ (x : Task). x.declared) (sym (but m ne))) (cases_eq m n) in
    subst (λ (ds : List Declared). same_declarations ds (declarations l m) ≡ true) kept (tells m live)
