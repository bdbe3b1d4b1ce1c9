-- What every reached bench keeps to.
use Rattle.std.proofs.Common.{◌≡◌, ℕ, suc, ◌+◌, ◌<◌, ◌≤◌, ◌⊎◌, List, [], ◌∷◌, ◌++◌, sym, refl, ap, ◌∙◌, subst, inl, inr, ⊎_elim, arith}
use Rattle.std.specs.List.{AllByRecursion}
use Rattle.std.proofs.ByRecursion.{All-weaker, All-map}
use Rattle.std.proofs.lemmas.List.{map-append}
use Rattle.kinds.specs.Kinds.{Kind, Lawful}
use Rattle.cards.specs.Code.{Card}
use Rattle.cards.specs.Bounds.{card_steps, card_tasks}
use Rattle.working.specs.Tasks.{Task}
use Rattle.working.specs.Requests.{Next, leaves, goes, makes, request, stored, faulted, stepped, reply}
use Rattle.working.specs.Serial.{Result, segment, made_by}
use Rattle.runs.specs.Lines.{Status, waiting, out, stuck, Member, member, with_status}
use Rattle.runs.specs.Steps.{members}
use Rattle.working.proofs.Fine.{Within, total_steps, total_tasks, fine_reply}
use Rattle.working.proofs.Serials.{total_steps_append, total_tasks_append}
use Rattle.runs.proofs.Pairs.{all_left, all_right, all_both, all_update, all_at, Pairs, pairs_before, pairs_behind, pairs_update}
use Rattle.runs.proofs.Words.{WholeWords, words_step}
use Rattle.runs.proofs.Apart.{Apart, apart_within}
use Rattle.runs.proofs.Diamond.{Follows, follows_trans, invariant}
use Rattle.runs.proofs.Lines.{tasks, same_tasks}

-- a stuck task's request is the fault, whatever the words
abbrev pub Stands : Kind → Task → Status → Type 0
Stands k t waiting = Unit {0}
Stands k t out = Unit {0}
Stands k t (stuck f l) = (m : List ℕ) → reply m (request k t) ≡ faulted f l

-- s before u: u with its turn out is not barred by s, and their numbers differ
pub record Beside (s u : Member) : Type 0 where
  pub apart : u.status ≡ out → Apart s.task u.task
  pub differ : s.number ≡ u.number → ⊥

-- what holds of the line: every number is below made, faults stand, and each is beside those behind it
pub record Orderly (k : Kind) (line : List Member) (made : ℕ) : Type 0 where
  pub numbered : AllByRecursion (λ s. s.number < made) line
  pub stands : AllByRecursion (λ s. Stands k s.task s.status) line
  pub pairs : Pairs Beside line

-- ... and of what is left to do, where r is the result of serial working
pub record Sound (k : Kind) (c : Card) (r : Result) (m : List ℕ) (line : List Member) (made steps : ℕ) : Type 0 where
  pub orderly : Orderly k line made
  pub worded : WholeWords m (tasks line)
  pub follows : Follows k m (tasks line) steps made r
  pub steps_left : steps + total_steps (tasks line) ≤ card_steps c
  pub tasks_left : made + total_tasks (tasks line) ≤ card_tasks c

-- A member whose status changes.

orderly_status : (k : Kind) (before : List Member) (s : Member) (u : Status) (behind : List Member) (made : ℕ) → Orderly k (before ++ (s ∷ behind)) made → Stands k s.task u → (u ≡ out → AllByRecursion (λ x. Apart x.task s.task) before) → Orderly k (before ++ (with_status s u ∷ behind)) made
unfolding with_status member
orderly_status k before s u behind made h g a = record {
  numbered = all_update _ before s behind (with_status s u ∷ []) h.numbered (all_at _ before s behind h.numbered, tt);
  stands = all_update _ before s behind (with_status s u ∷ []) h.stands (g, tt);
  pairs =
      pairs_update Beside before s behind (with_status s u ∷ []) h.pairs
      (beside before (pairs_before Beside before s behind h.pairs) a)
      (tt, tt)
      (All-weaker _ _ (λ v b. (record { apart = b.apart; differ = b.differ }, tt)) behind (pairs_behind Beside before s behind h.pairs));
}
  where
    beside : (xs : List Member) → AllByRecursion (λ x. Beside x s) xs → (u ≡ out → AllByRecursion (λ x. Apart x.task s.task) xs) → AllByRecursion (λ x. AllByRecursion (Beside x) (with_status s u ∷ [])) xs
    beside [] b c = tt
    beside (x ∷ xs) b c = ((record { apart = λ e. (c e).0; differ = b.0.differ }, tt), beside xs b.1 (λ e. (c e).1))

pub sound_status : (k : Kind) (c : Card) (r : Result) (m : List ℕ) (before : List Member) (s : Member) (u : Status) (behind : List Member) (made steps : ℕ) → Sound k c r m (before ++ (s ∷ behind)) made steps → Stands k s.task u → (u ≡ out → AllByRecursion (λ x. Apart x.task s.task) before) → Sound k c r m (before ++ (with_status s u ∷ behind)) made steps
sound_status k c r m before s u behind made steps h g a =
    let e = same_tasks before s u behind in
    record {
      orderly = orderly_status k before s u behind made h.orderly g a;
      worded = subst (WholeWords m) (sym e) h.worded;
      follows = subst (λ (ts : List Task). Follows k m ts steps made r) (sym e) h.follows;
      steps_left = rw e h.steps_left;
      tasks_left = rw e h.tasks_left;
    }

-- A task that steps.

-- what stands in its place: they hold no more, wait, and have the number n or the new number c
record Successor (t : Task) (n c : ℕ) (w : Member) : Type 0 where
  waits : w.status ≡ waiting
  within : Within t w.task
  numbered : (w.number ≡ n) ⊎ (w.number ≡ c)

successors : (t : Task) (n c : ℕ) (x : Next) → AllByRecursion (Within t) (segment x) → AllByRecursion (Successor t n c) (members n c x)
unfolding segment members member
successors t n c leaves h = tt
successors t n c (goes u) h = (record { waits = refl; within = h.0; numbered = inl refl }, tt)
successors t n c (makes v u) h = (record { waits = refl; within = h.0; numbered = inr refl }, (record { waits = refl; within = h.1.0; numbered = inl refl }, tt))

successors_pairs : (n c : ℕ) (x : Next) → n < c → Pairs Beside (members n c x)
unfolding members member
successors_pairs n c leaves h = tt
successors_pairs n c (goes u) h = (tt, tt)
successors_pairs n c (makes v u) h = ((record { apart = λ e. cc; differ = λ e. omega arith }, tt), (tt, tt))

successors_numbered : (n c : ℕ) (x : Next) → n < c → AllByRecursion (λ s. s.number < c + made_by x) (members n c x)
unfolding members member made_by
successors_numbered n c leaves h = tt
successors_numbered n c (goes u) h = (omega arith, tt)
successors_numbered n c (makes v u) h = (omega arith, (omega arith, tt))

successors_stand : (k : Kind) (n c : ℕ) (x : Next) → AllByRecursion (λ s. Stands k s.task s.status) (members n c x)
unfolding members member
successors_stand k n c leaves = tt
successors_stand k n c (goes u) = (tt, tt)
successors_stand k n c (makes v u) = (tt, (tt, tt))

successors_tasks : (n c : ℕ) (x : Next) → tasks (members n c x) ≡ segment x
unfolding members member segment
successors_tasks n c leaves = refl
successors_tasks n c (goes u) = refl
successors_tasks n c (makes v u) = refl

successor_behind : (s : Member) (c : ℕ) (u w : Member) → Beside u s → u.number < c → Successor s.task s.number c w → Beside u w
successor_behind s c u w b l h = record { apart = λ e. cc; differ = λ e. ⊎_elim (λ g. b.differ (e ∙ g)) (λ g. omega arith) h.numbered }

successor_before : (s : Member) (c : ℕ) (v w : Member) → Beside s v → v.number < c → Successor s.task s.number c w → Beside w v
successor_before s c v w b l h = record { apart = λ e. apart_within s.task w.task v.task h.within (b.apart e); differ = λ e. ⊎_elim (λ g. b.differ (sym g ∙ e)) (λ g. omega arith) h.numbered }

orderly_step : (k : Kind) (before : List Member) (s : Member) (behind : List Member) (made : ℕ) (x : Next) → Orderly k (before ++ (s ∷ behind)) made → AllByRecursion (Within s.task) (segment x) → Orderly k (before ++ (members s.number made x ++ behind)) (made + made_by x)
orderly_step k before s behind made x h w =
    let n : s.number < made = all_at _ before s behind h.numbered in
    let hs : AllByRecursion (Successor s.task s.number made) (members s.number made x) = successors s.task s.number made x w in
    record {
      numbered = all_update _ before s behind (members s.number made x) (All-weaker _ _ (λ u l. omega arith) _ h.numbered) (successors_numbered s.number made x n);
      stands = all_update _ before s behind (members s.number made x) h.stands (successors_stand k s.number made x);
      pairs =
          pairs_update Beside before s behind (members s.number made x) h.pairs
          (all_both _ _ _ (λ u b l. All-weaker _ _ (λ w. successor_behind s made u w b l) _ hs) before (pairs_before Beside before s behind h.pairs) (all_left _ before (s ∷ behind) h.numbered))
          (successors_pairs s.number made x n)
          (all_both _ _ _ (λ v b l. All-weaker _ _ (λ w. successor_before s made v w b l) _ hs) behind (pairs_behind Beside before s behind h.pairs) (all_right _ before (s ∷ behind) h.numbered).1);
    }

stepped_tasks : (before : List Member) (n c : ℕ) (x : Next) (behind : List Member) → tasks (before ++ (members n c x ++ behind)) ≡ tasks before ++ (segment x ++ tasks behind)
stepped_tasks before n c x behind = simp (map-append, successors_tasks)

pub sound_step : (k : Kind) → Lawful k → (c : Card) (r : Result) (m : List ℕ) (before : List Member) (s : Member) (behind : List Member) (made steps : ℕ) (x : Next) → Sound k c r m (before ++ (s ∷ behind)) made steps → s.status ≡ out → reply m (request k s.task) ≡ stepped x → Sound k c r (stored k m (request k s.task)) (before ++ (members s.number made x ++ behind)) (made + made_by x) (suc steps)
unfolding total_steps total_tasks
sound_step k law c r m before s behind made steps x h o q =
    let e : tasks (before ++ (members s.number made x ++ behind)) ≡ tasks before ++ (segment x ++ tasks behind) = stepped_tasks before s.number made x behind in
    let t : tasks (before ++ (s ∷ behind)) ≡ tasks before ++ (s.task ∷ tasks behind) = simp map-append in
    let f = fine_reply k m s.task x q in
    let apart = All-weaker _ _ (λ u b. b.apart o) before (pairs_before Beside before s behind h.orderly.pairs) in
    let next = invariant k law h.follows.serial (tasks before) s.task (tasks behind) x t (All-map (λ u. Apart u s.task) (λ s. s.task) before apart) h.worded q in
    let was = h.steps_left in
    let was' = h.tasks_left in
    let a = f.spends in
    let b = f.counts in
    record {
      orderly = orderly_step k before s behind made x h.orderly f.within;
      worded = subst (WholeWords (stored k m (request k s.task))) (sym e) (words_step k law m (tasks before) s.task (tasks behind) x (subst (WholeWords m) t h.worded) q);
      follows = subst (λ (ts : List Task). Follows k (stored k m (request k s.task)) ts (suc steps) (made + made_by x) r) (sym e) (follows_trans k _ _ _ _ r h.follows.result h.follows.same h.follows.counted next);
      steps_left = omega (arith, ap total_steps e, ap total_steps t, total_steps_append (tasks before) (segment x ++ tasks behind), total_steps_append (segment x) (tasks behind), total_steps_append (tasks before) (s.task ∷ tasks behind));
      tasks_left = omega (arith, ap total_tasks e, ap total_tasks t, total_tasks_append (tasks before) (segment x ++ tasks behind), total_tasks_append (segment x) (tasks behind), total_tasks_append (tasks before) (s.task ∷ tasks behind));
    }
