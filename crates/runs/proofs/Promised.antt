-- Every list of calls leads to a bench that keeps the whole promise.
use Rattle.std.proofs.Common.{◌≡◌, ℕ, Bool, true, false, cond, List, [], ◌∷◌, ◌++◌, Some, None, Option, sym, refl, ap, ◌∙◌, subst, inl, inr, ⊎_elim, arith}
use Rattle.std.specs.Option.{option_map_or}
use Rattle.std.proofs.lemmas.Bool.{not-true, not_from_false, and_from, eq-eqb, cond-true}
use Rattle.kinds.specs.Kinds.{Kind, Lawful}
use Rattle.cards.specs.Code.{Card}
use Rattle.working.specs.Serial.{Result, Serially}
use Rattle.sheets.specs.Sheets.{sheet_of}
use Rattle.cards.specs.Literals.{Literals}
use Rattle.runs.specs.Lines.{waiting, out, is_out, Member, any_out}
use Rattle.runs.specs.Benches.{Bench, bench, opened, offer, settled}
use Rattle.runs.specs.Steps.{replied, put, shut}
use Rattle.runs.specs.Events.{Event, took, performed, handed_back, has_turn, can_close, grants, effect, replay}
use Rattle.runs.specs.Choices.{Chooses, chosen}
use Rattle.runs.specs.Left.{left}
use Rattle.runs.specs.BenchSheets.{bench_sheet}
use Rattle.runs.specs.Refusals.{Refusal, Foreign}
use Rattle.runs.specs.Calls.{going_state, closed_state, turn_of, Call, Answer, refused, LawfulCall, LawfulCalls}
use Rattle.runs.specs.Tests.{fits_going, fits_closed, fits_turn, fits, unless, not_empty, too_long, own_refusal, refusal}
use Rattle.runs.specs.Answers.{reply_answer, step_answer, worked_off, write_out, granted, answered, answer, sheet_call, after_calls}
use Rattle.runs.specs.Promise.{Reached, Takes, Performs, Rests, Kept, WholePromise}
use Rattle.working.proofs.Serials.{serially_ends}
use Rattle.runs.proofs.Events.{found_test, put_found, advanced_found, apply_some, apply_granted, replay_first, reached_opened, reached_event}
use Rattle.runs.proofs.Changes.{put_run, effect_run}
use Rattle.runs.proofs.Reached.{Holds, reached_holds, first_offered, still_ready, turn_open, agreement, serial_sound}
use Rattle.runs.proofs.Turns.{find_split, place_below, taken, taken_out}
use Rattle.runs.proofs.WorkOffs.{AtWork, work_ends, going_open}
use Rattle.runs.proofs.Counts.{opened_counted}
use Rattle.runs.proofs.Refusals.{answer_granted, refuses}

-- What the tests say.

unless_none : (t : Bool) (r : Refusal) → unless t r ≡ None → t ≡ true
unfolding unless
unless_none true r e = refl
unless_none false r e = cc

none_unless : (t : Bool) (r : Refusal) → t ≡ true → unless t r ≡ None
unfolding unless
none_unless t r e = rw e

some_offered : (ns : List ℕ) → not_empty ns ≡ true → ns ≡ [] → ⊥
unfolding not_empty
some_offered [] e p = cc
some_offered (n ∷ ns) e p = cc

offered_some : (ns : List ℕ) → (ns ≡ [] → ⊥) → not_empty ns ≡ true
unfolding not_empty
offered_some [] h = absurd (h refl)
offered_some (n ∷ ns) h = refl

turn_fits : (n : ℕ) (r : ℕ) (b : Bench) → fits_turn (turn_of r n) b ≡ true → has_turn n b.line ≡ true
unfolding fits_turn
turn_fits n r b e = grind arith

-- P of what a call leaves
answer_leaves : (P : Bench → Type 0) (k : Kind) (x : Call) (b : Bench) → P b → (fits x b ≡ true → own_refusal k x b ≡ None → P (granted k x b).1) → P (answer k x b).1
unfolding answer answered refusal
answer_leaves P k x b h f = go (fits x b) (own_refusal k x b) refl refl
  where
    go : (y : Bool) (o : Option Refusal) → fits x b ≡ y → own_refusal k x b ≡ o → P (answered (cond y o (Some Foreign)) b (granted k x b)).1
    go true None p q = f p q
    go true (Some r) p q = h
    go false o p q = h

-- The run number stays.

replay_run : (k : Kind) (es : List Event) (b b₁ : Bench) → replay k es b ≡ Some b₁ → b₁.run ≡ b.run
unfolding replay
replay_run k [] b b₁ e = let p : b ≡ b₁ = cc in ap (λ (v : Bench). v.run) (sym p)
replay_run k (x ∷ es) b b₁ e =
    let g = replay_first k x es b b₁ e in
    replay_run k es g.0 b₁ g.2 ∙ ap (λ (v : Bench). v.run) (sym (apply_some k x b g.0 g.1).makes) ∙ effect_run k x b

reached_run : (k : Kind) (c : Card) (n : ℕ) (b : Bench) → Reached k c n b → b.run ≡ n
unfolding opened bench
reached_run k c n b h = replay_run k h.0 (opened k c n) b h.1

-- A reached bench.

module _ (k : Kind) (law : Lawful k) (c : Card) (ls : Literals c) (n : ℕ) (b : Bench) (reached : Reached k c n b) where
  abbrev r : Result
  r = (serially_ends k c).0

  serial : Serially k c r
  serial = (serially_ends k c).1

  holds : Holds k c r b
  holds = reached_holds k law c ls n r b serial reached

  by_event : (e : Event) → b.closed ≡ false → grants e b ≡ true → Reached k c n (effect k e b)
  by_event e z g = reached_event k c n e b (effect k e b) reached (apply_granted k e b z g)

  at_work : b.closed ≡ false → any_out b.line ≡ false → AtWork k c n r b
  at_work z o = record { holds = holds; reached = reached; going_on = z; none_out = o }

  -- a granted call is made of granted events
  granted_leads : (x : Call) → LawfulCall x → fits x b ≡ true → own_refusal k x b ≡ None → Reached k c n (granted k x b).1
  unfolding granted fits own_refusal grants
  granted_leads (Call.take g f) l p q = by_event (took (chosen f (offer b))) (going_open g b p) (taken k c r f b holds l (some_offered (offer b) (unless_none _ _ q))).allowed
  granted_leads (Call.perform t) l p q = let e = turn_fits t.task t.run b p in by_event (performed t.task) (turn_open k c r b t.task holds e) e
  granted_leads (Call.hand_back t) l p q = let e = turn_fits t.task t.run b p in by_event (handed_back t.task) (turn_open k c r b t.task holds e) e
  granted_leads (Call.look o i) l p q = reached
  granted_leads (Call.work_off g fs) l p q = (work_ends k law c n r (left b.line) fs b l (at_work (going_open g b p) (not-true _ (unless_none _ _ q))) (omega arith)).kept.reached
  granted_leads (Call.close g) l p q = by_event Event.closed (going_open g b p) (unless_none _ _ q)
  granted_leads (Call.sheet z buffer) l p q = reached

  pub reached_call : (x : Call) → LawfulCall x → Reached k c n (answer k x b).1
  reached_call x l = answer_leaves (Reached k c n) k x b reached (granted_leads x l)

  -- What the promise says of it.

  own_run : b.run ≡ n
  own_run = reached_run k c n b reached

  fits_own : b.closed ≡ false → fits_going (going_state n) b ≡ true
  unfolding fits_going
  fits_own z = grind (arith, eq-eqb n b.run (sym own_run))

  open_yet : settled b ≡ false → b.closed ≡ false
  open_yet s = let x : b.closed ≡ true → settled b ≡ true = λ x. (holds.shut x).settled_yet in grind arith

  takes : settled b ≡ false → (offer b ≡ [] → ⊥) → (f : List ℕ → ℕ) → Chooses f → Takes k n f b
  unfolding fits own_refusal granted effect fits_turn
  takes s o f l =
      let i = chosen f (offer b) in
      record {
        place = place_below f (offer b) l o;
        answers = answer_granted k b (Call.take (going_state n) f) (fits_own (open_yet s)) (none_unless _ _ (offered_some (offer b) o)) ∙ ap {B = Answer × Bench} (λ (m : ℕ). (Answer.turn (turn_of m i), put i out b)) own_run;
        then_out = grind (arith, eq-eqb n (put i out b).run (sym (put_run i out b ∙ own_run)), taken_out f b (taken k c r f b holds l o));
      }

  performs : (before : List Member) (s : Member) (behind : List Member) → b.line ≡ before ++ (s ∷ behind) → s.status ≡ out → Performs k n b s
  unfolding fits own_refusal granted effect fits_turn has_turn is_out step_answer
  performs before s behind e o =
      let here = find_split k b.line before s behind b.made holds.sound.orderly e in
      let fit : fits_turn (turn_of n s.number) b ≡ true = grind (arith, eq-eqb n b.run (sym own_run), found_test s.number b.line (λ u. is_out u.status) s here (ap is_out o)) in
      let answers : step_answer k s.number b ≡ reply_answer (replied k b s) = ap (λ (x : Option Member). option_map_or (λ u. reply_answer (replied k b u)) x (refused Foreign)) here in
      record {
        still = still_ready k c r b holds before s behind e o;
        answers = answer_granted k b (Call.perform (turn_of n s.number)) fit refl ∙ (λ i. (answers i, advanced_found k s.number b s here i));
        given_up = answer_granted k b (Call.hand_back (turn_of n s.number)) fit refl ∙ ap {B = Answer × Bench} (λ (v : Bench). (Answer.returned, v)) (put_found s.number waiting b s here);
      }

  works_off : (fs : ℕ → List ℕ → ℕ) → ((i : ℕ) → Chooses (fs i)) → b.closed ≡ false → any_out b.line ≡ false → ((answer k (Call.work_off (going_state n) fs) b).0 ≡ Answer.going (going_state n)) × Rests (answer k (Call.work_off (going_state n) fs) b).1
  unfolding fits own_refusal granted
  works_off fs l z o =
      let w = work_ends k law c n r (left b.line) fs b l (at_work z o) (omega arith) in
      let e : answer k (Call.work_off (going_state n) fs) b ≡ (Answer.going (going_state n), worked_off k (left b.line) fs b) = answer_granted k b (Call.work_off (going_state n) fs) (fits_own z) (none_unless _ _ (not_from_false _ o)) in
      (ap (λ (x : Answer × Bench). x.0) e, subst (λ (x : Answer × Bench). Rests x.1) (sym e) (record { settled_yet = w.settled_yet; none_out = w.kept.none_out }))

  closes : b.closed ≡ false → Rests b → answer k (Call.close (going_state n)) b ≡ (Answer.closed (closed_state n), shut b)
  unfolding fits own_refusal granted effect can_close
  closes z h =
      answer_granted k b (Call.close (going_state n)) (fits_own z) (none_unless _ _ (and_from _ _ h.settled_yet (not_from_false _ h.none_out)))
      ∙ ap {B = Answer × Bench} (λ (i : ℕ). (Answer.closed (closed_state i), shut b)) own_run

  sheets : b.closed ≡ true → (buffer : List ℕ) → sheet_call k (closed_state n) buffer b ≡ answered (too_long (sheet_of k c) buffer) buffer (write_out (sheet_of k c) buffer)
  unfolding sheet_call refusal fits own_refusal fits_closed
  sheets z buffer =
      ap (λ (o : Option Refusal). answered o buffer (write_out (bench_sheet k b) buffer)) (cond-true (fits_closed (closed_state n) b) _ _ (and_from _ _ (eq-eqb n b.run (sym own_run)) z))
      ∙ ap (λ (text : List ℕ). answered (too_long text buffer) buffer (write_out text buffer)) (agreement k c r b serial holds (holds.shut z).settled_yet).same_sheet

  pub reached_keeps : Kept k c n b
  unfolding settled offer
  reached_keeps =
      let steps = holds.sound.steps_left in
      let made = holds.sound.tasks_left in
      record {
        same_run = own_run;
        goes_on = λ s. ⊎_elim (λ o. inl o) (λ o. inr (takes s o)) (first_offered b.line s);
        performs = performs;
        works_off = works_off;
        closes = closes;
        closed_rests = holds.shut;
        agrees = agreement k c r b serial holds;
        sheets = sheets;
        steps_bounded = omega arith;
        made_bounded = omega arith;
        reached = reached;
      }

reached_calls : (k : Kind) → Lawful k → (c : Card) → Literals c → (n : ℕ) (xs : List Call) (b : Bench) → LawfulCalls xs → Reached k c n b → Reached k c n (after_calls k xs b)
unfolding after_calls
reached_calls k law c ls n [] b l h = h
reached_calls k law c ls n (x ∷ xs) b l h = reached_calls k law c ls n xs (answer k x b).1 l.1 (reached_call k law c ls n b h x l.0)

pub whole_promise : WholePromise
whole_promise k c = (
  serial_sound k c,
  refuses k,
  λ law ls n xs l. record {
    kept = reached_keeps k law c ls n _ (reached_calls k law c ls n xs (opened k c n) l (reached_opened k c n));
    counted = opened_counted k c n xs;
  },
)
