-- Every reached bench keeps the invariant, and once settled it agrees with serial working.
use Rattle.std.proofs.Common.{◌≡◌, ℕ, true, false, not, ◌&&◌, ◌⊎◌, List, [], ◌∷◌, ◌++◌, Some, sym, refl, ap, ◌∙◌, subst, inl, inr, arith}
use Rattle.std.specs.List.{AllByRecursion}
use Rattle.std.proofs.ByRecursion.{All-weaker}
use Rattle.std.proofs.lemmas.Bool.{both_ways, not_from_false, and_from, cond-true}
use Rattle.kinds.specs.Kinds.{Kind, Lawful}
use Rattle.cards.specs.Code.{Card}
use Rattle.working.specs.declared.fault.FaultKind.{FaultKind}
use Rattle.working.specs.Tasks.{Task, main}
use Rattle.working.specs.Requests.{request, Reply, faulted, stepped, reply}
use Rattle.working.specs.Serial.{Outcome, words, fault, Result, result, Serial, done, stop, more, Serially}
use Rattle.sheets.specs.Sheets.{outcome_sheet, result_sheet, sheet_of}
use Rattle.cards.specs.Literals.{Literals}
use Rattle.runs.specs.Lines.{Status, waiting, out, stuck, is_out, is_stuck, Member, member, with_status, find, any_out}
use Rattle.runs.specs.Ready.{ready, on_offer, offered}
use Rattle.runs.specs.Benches.{Bench, bench, opened, settled_line, settled, stuck_outcome, line_outcome, outcome}
use Rattle.runs.specs.Steps.{marked, members, after_reply, replied, step, shut}
use Rattle.runs.specs.Events.{Event, took, performed, handed_back, can_take, has_turn, can_close, grants, effect, apply, replay}
use Rattle.runs.specs.BenchSheets.{settled_sheet, bench_sheet}
use Rattle.runs.specs.Promise.{SerialSound, Counts, Agrees, Rests, Reached}
use Rattle.working.proofs.Fine.{total_steps, total_tasks}
use Rattle.working.proofs.Serials.{serially_ends, serially_agrees, serially_bounded}
use Rattle.runs.proofs.Requests.{fault_reply}
use Rattle.runs.proofs.Pairs.{pairs_before}
use Rattle.runs.proofs.Words.{words_opened}
use Rattle.runs.proofs.Apart.{Apart}
use Rattle.runs.proofs.Diamond.{Counted, follows_refl}
use Rattle.runs.proofs.Queues.{clear_apart, apart_clear, ready_clear, clear_ready}
use Rattle.runs.proofs.Lines.{tasks, out_is, Found, found, found_own, out_somewhere}
use Rattle.runs.proofs.Invariant.{Stands, Beside, Sound, sound_status, sound_step}
use Rattle.runs.proofs.Events.{test_found, put_found, advanced_found, apply_some, replay_first}

-- what every reached bench has, where r is the result of serial working
pub record Holds (k : Kind) (c : Card) (r : Result) (b : Bench) : Type 0 where
  pub sound : Sound k c r b.store b.line b.made b.steps
  pub shut : b.closed ≡ true → Rests b

-- Each event.

module _ (k : Kind) (c : Card) (r : Result) (b : Bench) (going_on : b.closed ≡ false) (h : Holds k c r b) where
  abbrev split_sound : (s : Member) (f : Found s.number b.line s) → Sound k c r b.store (f.before ++ (s ∷ f.behind)) b.made b.steps
  split_sound s f = subst (λ (l : List Member). Sound k c r b.store l b.made b.steps) f.split h.sound

  not_shut : {X : Type 0} → b.closed ≡ true → X
  not_shut e = absurd (both_ways b.closed going_on e)

  holds_marked : (s : Member) (u : Status) (f : Found s.number b.line s) → Stands k s.task u → (u ≡ out → AllByRecursion (λ x. Apart x.task s.task) f.before) → Holds k c r (marked b s u)
  unfolding marked bench
  holds_marked s u f g a = record {
    sound = rw (f.replaced (with_status s u ∷ [])) (sound_status k c r b.store f.before s u f.behind b.made b.steps (split_sound s f) g a);
    shut = not_shut;
  }

  apart_before : (s : Member) (f : Found s.number b.line s) → ready b.line s ≡ true → AllByRecursion (λ x. Apart x.task s.task) f.before
  apart_before s f e =
      let beside = pairs_before Beside f.before s f.behind (split_sound s f).orderly.pairs in
      clear_apart s f.before (s ∷ f.behind) (All-weaker _ _ (λ u g. g.differ) f.before beside) (ready_clear _ s (rw f.split at e))

  holds_step : Lawful k → (s : Member) (f : Found s.number b.line s) → s.status ≡ out → Holds k c r (step k b s)
  unfolding step replied after_reply bench
  holds_step law s f o = go (reply b.store (request k s.task)) refl
    where
      go : (p : Reply) → reply b.store (request k s.task) ≡ p → Holds k c r (after_reply k b s p)
      go (faulted g l) e = holds_marked s (stuck g l) f (λ m. fault_reply (request k s.task) g l b.store m e) (λ q. cc)
      go (stepped x) e = record {
        sound = rw (f.replaced (members s.number b.made x)) (sound_step k law c r b.store f.before s f.behind b.made b.steps x (split_sound s f) o e);
        shut = not_shut;
      }

  own : (n : ℕ) (s : Member) → find n b.line ≡ Some s → Found s.number b.line s
  own n s e = found_own n b.line s (found n b.line s e)

  holds_effect : Lawful k → (e : Event) → grants e b ≡ true → Holds k c r (effect k e b)
  unfolding grants effect can_take on_offer has_turn can_close shut bench settled
  holds_effect law (took n) e =
      let g = test_found n b.line (on_offer b.line) e in
      let f = own n g.0 g.1 in
      subst (Holds k c r) (sym (put_found n out b g.0 g.1)) (holds_marked g.0 out f tt (λ q. apart_before g.0 f (grind arith)))
  holds_effect law (performed n) e =
      let g = test_found n b.line (λ s. is_out s.status) e in
      subst (Holds k c r) (sym (advanced_found k n b g.0 g.1)) (holds_step law g.0 (own n g.0 g.1) (out_is g.0.status g.2))
  holds_effect law (handed_back n) e =
      let g = test_found n b.line (λ s. is_out s.status) e in
      subst (Holds k c r) (sym (put_found n waiting b g.0 g.1)) (holds_marked g.0 waiting (own n g.0 g.1) tt (λ q. cc))
  holds_effect law Event.closed e =
      record { sound = h.sound; shut = λ x. record { settled_yet = grind arith; none_out = grind arith } }

pub holds_apply : (k : Kind) → Lawful k → (c : Card) (r : Result) (b : Bench) (e : Event) (b₁ : Bench) → Holds k c r b → apply k e b ≡ Some b₁ → Holds k c r b₁
holds_apply k law c r b e b₁ h q = let a = apply_some k e b b₁ q in subst (Holds k c r) a.makes (holds_effect k c r b a.going_on h law e a.allowed)

holds_replay : (k : Kind) → Lawful k → (c : Card) (r : Result) (es : List Event) (b b₁ : Bench) → Holds k c r b → replay k es b ≡ Some b₁ → Holds k c r b₁
unfolding replay
holds_replay k law c r [] b b₁ h q = let p : b ≡ b₁ = cc in subst (Holds k c r) p h
holds_replay k law c r (e ∷ es) b b₁ h q =
    let g = replay_first k e es b b₁ q in
    holds_replay k law c r es g.0 b₁ (holds_apply k law c r b e g.0 h g.1) g.2

holds_opened : (k : Kind) → Lawful k → (c : Card) → Literals c → (n : ℕ) (r : Result) → Serially k c r → Holds k c r (opened k c n)
unfolding opened bench member total_steps total_tasks main
holds_opened k law c ls n r s = record {
  sound = record {
    orderly = record { numbered = (omega arith, tt); stands = (tt, tt); pairs = (tt, tt) };
    worded = words_opened k law c ls;
    follows = follows_refl k _ _ _ _ r s;
    steps_left = omega arith;
    tasks_left = omega arith;
  };
  shut = λ e. cc;
}

pub reached_holds : (k : Kind) → Lawful k → (c : Card) → Literals c → (n : ℕ) (r : Result) (b : Bench) → Serially k c r → Reached k c n b → Holds k c r b
reached_holds k law c ls n r b s e = holds_replay k law c r e.0 (opened k c n) b (holds_opened k law c ls n r s) e.1

-- Progress.

-- the first in line is offered, or its turn is out, or it is stuck
pub first_offered : (line : List Member) → settled_line line ≡ false → (any_out line ≡ true) ⊎ (offered line line ≡ [] → ⊥)
unfolding settled_line any_out offered on_offer is_out is_stuck
first_offered [] e = cc
first_offered (s ∷ ss) e = go s.status refl
  where
    go : (u : Status) → s.status ≡ u → (any_out (s ∷ ss) ≡ true) ⊎ (offered (s ∷ ss) (s ∷ ss) ≡ [] → ⊥)
    go waiting p =
        let t = and_from (ready (s ∷ ss) s) (not (is_out s.status)) (clear_ready (s ∷ ss) s (ap is_stuck p) (apart_clear s [] ss tt)) (not_from_false _ (ap is_out p)) in
        let o = cond-true (ready (s ∷ ss) s && not (is_out s.status)) (s.number ∷ offered (s ∷ ss) ss) (offered (s ∷ ss) ss) t in
        inr (λ q. cc)
    go out p = inl (rw p)
    go (stuck f l) p = let q = ap is_stuck p in cc

-- a task whose turn is out stays ready
pub still_ready : (k : Kind) (c : Card) (r : Result) (b : Bench) → Holds k c r b → (before : List Member) (s : Member) (behind : List Member) → b.line ≡ before ++ (s ∷ behind) → s.status ≡ out → ready b.line s ≡ true
unfolding is_stuck
still_ready k c r b h before s behind e o =
    let sound = subst (λ (l : List Member). Sound k c r b.store l b.made b.steps) e h.sound in
    let beside = pairs_before Beside before s behind sound.orderly.pairs in
    rw e (clear_ready (before ++ (s ∷ behind)) s (ap is_stuck o) (apart_clear s before behind (All-weaker _ _ (λ u g. g.apart o) before beside)))

-- where a turn is out, the bench is not closed
pub turn_open : (k : Kind) (c : Card) (r : Result) (b : Bench) (n : ℕ) → Holds k c r b → has_turn n b.line ≡ true → b.closed ≡ false
unfolding has_turn
turn_open k c r b n h e =
    let g = test_found n b.line (λ s. is_out s.status) e in
    let f = found n b.line g.0 g.1 in
    let w : any_out b.line ≡ true = rw f.split (out_somewhere f.before g.0 f.behind (out_is g.0.status g.2)) in
    let x : b.closed ≡ true → any_out b.line ≡ false = λ x. (h.shut x).none_out in
    grind arith

-- What it comes to.

serial_empty : (k : Kind) {m : List ℕ} {n c : ℕ} {r : Result} → Serial k m [] n c r → r ≡ result (words m) n c
serial_empty k done = refl

serial_stuck : (k : Kind) {m : List ℕ} {t : Task} {ts : List Task} {n c : ℕ} {r : Result} → Serial k m (t ∷ ts) n c r → (f : FaultKind) (l : ℕ) → reply m (request k t) ≡ faulted f l → r ≡ result (fault f l t.place) n c
serial_stuck k (stop d) f l e = cc
serial_stuck k (more d s) f l e = cc

-- at a settled line serial working is at its end
settled_ends : (k : Kind) (m : List ℕ) (line : List Member) (n c : ℕ) (q : Result) → settled_line line ≡ true → AllByRecursion (λ s. Stands k s.task s.status) line → Serial k m (tasks line) n c q → (line_outcome m line ≡ Some q.outcome) × (q.steps ≡ n) × (q.made ≡ c)
unfolding settled_line line_outcome stuck_outcome is_stuck
settled_ends k m [] n c q e h s = let p = serial_empty k s in (ap (λ (x : Result). Some x.outcome) (sym p), ap (λ (x : Result). x.steps) p, ap (λ (x : Result). x.made) p)
settled_ends k m (u ∷ us) n c q e h s = go u.status e h.0
  where
    go : (v : Status) → is_stuck v ≡ true → Stands k u.task v → (stuck_outcome u.task.place v ≡ Some q.outcome) × (q.steps ≡ n) × (q.made ≡ c)
    go waiting x g = cc
    go out x g = cc
    go (stuck f l) x g = let p = serial_stuck k s f l (g m) in (ap (λ (x : Result). Some x.outcome) (sym p), ap (λ (x : Result). x.steps) p, ap (λ (x : Result). x.made) p)

counts_from : (o : Outcome) (r q : Result) (b : Bench) → Counted o r q → q.steps ≡ b.steps → q.made ≡ b.made → Counts o r b
counts_from (words m) r q b h e d = (sym e ∙ h.0, sym d ∙ h.1)
counts_from (fault f l p) r q b h e d = omega arith

outcome_same : (k : Kind) (r : Result) (b : Bench) (o : Outcome) → Counts o r b → outcome_sheet k b.made b.steps o ≡ outcome_sheet k r.made r.steps o
unfolding outcome_sheet
outcome_same k r b (Outcome.words ws) h = rw (h.0, h.1)
outcome_same k r b (Outcome.fault f l p) h = refl

pub agreement : (k : Kind) (c : Card) (r : Result) (b : Bench) → Serially k c r → Holds k c r b → settled b ≡ true → Agrees k c b
unfolding settled outcome bench_sheet settled_sheet sheet_of result_sheet
agreement k c r b s h x =
    let f = h.sound.follows in
    let e = settled_ends k b.store b.line b.steps b.made f.result x h.sound.orderly.stands f.serial in
    let worked = (serially_agrees k c r).1 s in
    let same : outcome b ≡ Some r.outcome = e.0 ∙ ap (λ (o : Outcome). Some o) f.same in
    let counts : Counts r.outcome r b = counts_from r.outcome r f.result b f.counted e.1 e.2 in
    record {
      serial = r;
      worked = worked;
      same = same;
      counts = counts;
      same_sheet = ap (settled_sheet k b) same ∙ outcome_same k r b r.outcome counts ∙ ap (result_sheet k) (sym worked);
    }

pub serial_sound : (k : Kind) (c : Card) → SerialSound k c
serial_sound k c =
    let s = serially_ends k c in
    let b = serially_bounded k c s.0 s.1 in
    record { result = s.0; worked = (serially_agrees k c s.0).1 s.1; agree = serially_agrees k c; steps_bounded = b.0; made_bounded = b.1 }
