-- A step of a task that no earlier one bars does not change what serial working comes to.
use Rattle.std.proofs.Common.{◌≡◌, ℕ, suc, ◌+◌, ◌≤◌, List, [], ◌∷◌, ◌++◌, sym, refl, ap, ◌∙◌, subst, append_assoc, arith}
use mathlib.Core.Path.{subst₃}
use Rattle.std.specs.List.{AllByRecursion}
use Rattle.std.proofs.ByRecursion.{All-append, All-weaker}
use Rattle.kinds.specs.Kinds.{IsWord, Kind, Lawful}
use Rattle.working.specs.declared.fault.FaultKind.{FaultKind}
use Rattle.working.specs.Tasks.{Task}
use Rattle.working.specs.Requests.{Next, request, stored, faulted, stepped, reply}
use Rattle.working.specs.Serial.{Outcome, words, fault, Result, result, segment, made_by, Serial, done, stop, more}
use Rattle.working.proofs.Fine.{Within, fine_reply}
use Rattle.runs.proofs.Requests.{fault_reply, allowed}
use Rattle.runs.proofs.Pairs.{all_right}
use Rattle.runs.proofs.Words.{Worded, WholeWords, keeps, words_step}
use Rattle.runs.proofs.Apart.{Apart, apart_within, commute_stored, later_reply, first_reply}

-- r' has the counts of r, or after a fault at least its steps
abbrev pub Counted : Outcome → Result → Result → Type 0
Counted (words m) r r' = (r'.steps ≡ r.steps) × (r'.made ≡ r.made)
Counted (fault f l p) r r' = r.steps ≤ r'.steps

-- serial working from here has the outcome of r
pub record Follows (k : Kind) (m : List ℕ) (line : List Task) (n c : ℕ) (r : Result) : Type 0 where
  pub result : Result
  pub serial : Serial k m line n c result
  pub same : result.outcome ≡ r.outcome
  pub counted : Counted r.outcome r result

serial_along : (k : Kind) (m m' : List ℕ) (line line' : List Task) (n c c' : ℕ) (r : Result) → m ≡ m' → line ≡ line' → c ≡ c' → Serial k m line n c r → Serial k m' line' n c' r
serial_along k m m' line line' n c c' r p q e s = subst₃ (λ (a : List ℕ) (b : List Task) (d : ℕ). Serial k a b n d r) p q e s

-- the diamond: u, the first in line, and t behind it make their steps in either order
diamond : (k : Kind) → Lawful k → (m : List ℕ) (u t : Task) (before behind : List Task) (y x : Next) (n c : ℕ) (r : Result) → Apart u t → AllByRecursion IsWord m → Worded u → Worded t → reply m (request k u) ≡ stepped y → Follows k (stored k (stored k m (request k u)) (request k t)) ((segment y ++ before) ++ (segment x ++ behind)) (suc (suc n)) (c + made_by y + made_by x) r → Follows k (stored k m (request k t)) (u ∷ (before ++ (segment x ++ behind))) (suc n) (c + made_by x) r
diamond k law m u t before behind y x n c r p ws wu wt d f =
    record {
      result = f.result;
      serial =
          more (first_reply k u t (request k u) (request k t) m p (allowed k u) (allowed k t) ∙ d)
          (serial_along k _ _ _ _ _ _ _ _ (commute_stored k law u t (request k u) (request k t) m p (allowed k u) (allowed k t) ws (keeps k law u wu) (keeps k law t wt)) (append_assoc (segment y) before (segment x ++ behind)) (omega arith) f.serial);
      same = f.same;
      counted = f.counted;
    }

stopped : (k : Kind) (m m' : List ℕ) (u : Task) (f : FaultKind) (l : ℕ) (rest : List Task) (n c n' c' : ℕ) → reply m (request k u) ≡ faulted f l → n ≤ n' → Follows k m' (u ∷ rest) n' c' (result (fault f l u.place) n c)
stopped k m m' u f l rest n c n' c' d h = record { result = result (fault f l u.place) n' c'; serial = stop (fault_reply (request k u) f l m m' d); same = refl; counted = h }

counted_refl : (o : Outcome) (r : Result) → Counted o r r
counted_refl (words m) r = (refl, refl)
counted_refl (fault f l p) r = omega arith

counted_trans : (o : Outcome) (a b c : Result) → Counted o a b → Counted o b c → Counted o a c
counted_trans (words m) a b c h g = (g.0 ∙ h.0, g.1 ∙ h.1)
counted_trans (fault f l p) a b c h g = omega arith

pub follows_refl : (k : Kind) (m : List ℕ) (line : List Task) (n c : ℕ) (r : Result) → Serial k m line n c r → Follows k m line n c r
follows_refl k m line n c r s = record { result = r; serial = s; same = refl; counted = counted_refl r.outcome r }

pub follows_trans : (k : Kind) (m : List ℕ) (line : List Task) (n c : ℕ) (r : Result) (q : Result) → q.outcome ≡ r.outcome → Counted r.outcome r q → Follows k m line n c q → Follows k m line n c r
follows_trans k m line n c r q e h f = record { result = f.result; serial = f.serial; same = f.same ∙ e; counted = counted_trans r.outcome r q f.result h (subst (λ (o : Outcome). Counted o q f.result) e f.counted) }

-- The cases of the invariant.

never_empty : (before : List Task) (t : Task) (behind : List Task) → [] ≡ before ++ (t ∷ behind) → ⊥
never_empty [] t behind e = cc
never_empty (u ∷ us) t behind e = cc

stop_later : (k : Kind) (m m' : List ℕ) (u v : Task) (ts rest rest' : List Task) (f : FaultKind) (l n c c' : ℕ) → reply m (request k u) ≡ faulted f l → u ∷ ts ≡ v ∷ rest → Follows k m' (v ∷ rest') (suc n) c' (result (fault f l u.place) n c)
stop_later k m m' u v ts rest rest' f l n c c' d e =
    subst (λ (w : Task). Follows k m' (w ∷ rest') (suc n) c' (result (fault f l u.place) n c)) (cc) (stopped k m m' u f l rest' n c (suc n) c' d (omega arith))

more_first : (k : Kind) (m : List ℕ) (u t : Task) (ts behind : List Task) (y x : Next) (n c : ℕ) (r : Result) → reply m (request k u) ≡ stepped y → Serial k (stored k m (request k u)) (segment y ++ ts) (suc n) (c + made_by y) r → u ∷ ts ≡ t ∷ behind → reply m (request k t) ≡ stepped x → Follows k (stored k m (request k t)) (segment x ++ behind) (suc n) (c + made_by x) r
more_first k m u t ts behind y x n c r d s e q =
    let p : u ≡ t = cc in
    let w : ts ≡ behind = cc in
    let z : y ≡ x = cc in
    follows_refl k _ _ _ _ r (serial_along k _ _ _ _ _ _ _ _ (ap (λ v. stored k m (request k v)) p) (ap (λ v. segment v ++ ts) z ∙ ap (λ v. segment x ++ v) w) (ap (λ v. c + made_by v) z) s)

more_later : (k : Kind) → Lawful k → (m : List ℕ) (u v t : Task) (ts us behind : List Task) (y x : Next) (n c : ℕ) (r : Result) → reply m (request k u) ≡ stepped y → u ∷ ts ≡ v ∷ (us ++ (t ∷ behind)) → AllByRecursion (λ w. Apart w t) (v ∷ us) → WholeWords m (u ∷ ts) → reply m (request k t) ≡ stepped x → ((before : List Task) → segment y ++ ts ≡ before ++ (t ∷ behind) → AllByRecursion (λ w. Apart w t) before → WholeWords (stored k m (request k u)) (segment y ++ ts) → reply (stored k m (request k u)) (request k t) ≡ stepped x → Follows k (stored k (stored k m (request k u)) (request k t)) (before ++ (segment x ++ behind)) (suc (suc n)) (c + made_by y + made_by x) r) → Follows k (stored k m (request k t)) (v ∷ (us ++ (segment x ++ behind))) (suc n) (c + made_by x) r
more_later k law m u v t ts us behind y x n c r d e h ww q ih =
    let p : u ≡ v = cc in
    let w : ts ≡ us ++ (t ∷ behind) = cc in
    let a : Apart u t = subst (λ (z : Task). Apart z t) (sym p) h.0 in
    let apart : AllByRecursion (λ v. Apart v t) (segment y ++ us) = All-append _ (segment y) us (All-weaker (Within u) _ (λ v g. apart_within u v t g a) (segment y) (fine_reply k m u y d).within) h.1 in
    let again : reply (stored k m (request k u)) (request k t) ≡ stepped x = later_reply k u t (request k u) (request k t) m a (allowed k u) (allowed k t) ∙ q in
    subst (λ (z : Task). Follows k (stored k m (request k t)) (z ∷ (us ++ (segment x ++ behind))) (suc n) (c + made_by x) r) p
    (diamond k law m u t us behind y x n c r a ww.store ww.tasks.0 (all_right Worded us (t ∷ behind) (subst (AllByRecursion Worded) w ww.tasks.1)).0 d
    (ih (segment y ++ us) (ap (λ v. segment y ++ v) w ∙ sym (append_assoc (segment y) us (t ∷ behind))) apart (words_step k law m [] u ts y ww d) again))

-- a step of a task that is apart from all before it does not change what serial working comes to
pub invariant : (k : Kind) → Lawful k → {m : List ℕ} {line : List Task} {n c : ℕ} {r : Result} → Serial k m line n c r → (before : List Task) (t : Task) (behind : List Task) (x : Next) → line ≡ before ++ (t ∷ behind) → AllByRecursion (λ u. Apart u t) before → WholeWords m line → reply m (request k t) ≡ stepped x → Follows k (stored k m (request k t)) (before ++ (segment x ++ behind)) (suc n) (c + made_by x) r
invariant k law done before t behind x e h ww q = absurd (never_empty before t behind e)
invariant k law (stop {m = m} {t = u} {ts = ts} {f = f} {l = l} d) [] t behind x e h ww q = cc
invariant k law (stop {m = m} {t = u} {ts = ts} {n = n} {c = c} {f = f} {l = l} d) (v ∷ us) t behind x e h ww q = stop_later k m _ u v ts _ _ f l n c _ d e
invariant k law (more {m = m} {t = u} {ts = ts} {n = n} {c = c} {x = y} {r = r} d s) [] t behind x e h ww q = more_first k m u t ts behind y x n c r d s e q
invariant k law (more {m = m} {t = u} {ts = ts} {n = n} {c = c} {x = y} {r = r} d s) (v ∷ us) t behind x e h ww q =
    more_later k law m u v t ts us behind y x n c r d e h ww q (λ before. invariant k law s before t behind x)
