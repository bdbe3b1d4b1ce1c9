-- One turn: what is offered can be taken, what is taken can be performed, and less is left to do.
use Rattle.std.proofs.Common.{◌≡◌, ℕ, zero, suc, ◌<◌, Bool, true, false, cond, List, [], ◌∷◌, ◌++◌, length, get_or, Some, sym, refl, ap, ◌∙◌, subst, ⊎_elim, append_assoc, arith}
use Rattle.std.specs.List.{AllByRecursion}
use Rattle.std.proofs.ByRecursion.{All-weaker}
use Rattle.kinds.specs.Kinds.{Kind}
use Rattle.cards.specs.Code.{Card}
use Rattle.working.specs.Requests.{Next, leaves, goes, makes, Reply, faulted, stepped}
use Rattle.working.specs.Serial.{Result}
use Rattle.runs.specs.Lines.{Status, waiting, out, stuck, is_out, is_stuck, Member, member, with_status, find, replace, any_out}
use Rattle.runs.specs.Ready.{ready, on_offer, offered}
use Rattle.runs.specs.Benches.{Bench, bench, offer, settled}
use Rattle.runs.specs.Steps.{marked, members, after_reply, replied, step, put, advanced}
use Rattle.runs.specs.Events.{took, performed, can_take, has_turn, grants, effect, apply}
use Rattle.runs.specs.Choices.{Chooses, chosen}
use Rattle.runs.specs.Left.{weight, left}
use Rattle.runs.specs.Answers.{turned}
use Rattle.runs.proofs.Pairs.{pairs_before}
use Rattle.runs.proofs.Lines.{Found, found, found_own, find_at, find_replaced, replace_replaced, none_out_parts, none_out_append}
use Rattle.runs.proofs.Invariant.{Beside, Orderly}
use Rattle.runs.proofs.Left.{step_falls, marked_keeps}
use Rattle.runs.proofs.Events.{test_found, found_test, put_found, advanced_found, apply_granted}
use Rattle.runs.proofs.Changes.{put_closed, advanced_closed}
use Rattle.runs.proofs.Reached.{Holds, first_offered}

-- The member of an offered number.

record Offered (line : List Member) (n : ℕ) : Type 0 where
  before : List Member
  one : Member
  behind : List Member
  split : line ≡ before ++ (one ∷ behind)
  number : one.number ≡ n
  offers : on_offer line one ≡ true

offered_at : (line before ss : List Member) (i : ℕ) → line ≡ before ++ ss → i < length (offered line ss) → Offered line (get_or (offered line ss) i 0)
unfolding offered
offered_at line before [] i e h = absurd (omega arith)
offered_at line before (s ∷ ss) i e h = go (on_offer line s) refl i h (λ j. offered_at line (before ++ (s ∷ [])) ss j (e ∙ sym (append_assoc before (s ∷ []) ss)))
  where
    go : (x : Bool) → on_offer line s ≡ x → (i : ℕ) → i < length (cond x (s.number ∷ offered line ss) (offered line ss)) → ((j : ℕ) → j < length (offered line ss) → Offered line (get_or (offered line ss) j 0)) → Offered line (get_or (cond x (s.number ∷ offered line ss) (offered line ss)) i 0)
    go true p zero l f = record { before = before; one = s; behind = ss; split = e; number = refl; offers = p }
    go true p (suc j) l f = f j (omega arith)
    go false p j l f = f j l

offered_waits : (line : List Member) (s : Member) → on_offer line s ≡ true → s.status ≡ waiting
unfolding on_offer ready is_stuck is_out
offered_waits line s e = go s.status (grind arith) (grind arith)
  where
    go : (u : Status) → is_stuck u ≡ false → is_out u ≡ false → u ≡ waiting
    go waiting p q = refl
    go out p q = cc
    go (stuck f l) p q = cc

-- numbers differ, so a member that stands in the line is found
differs : (k : Kind) (before : List Member) (s : Member) (behind : List Member) (made : ℕ) → Orderly k (before ++ (s ∷ behind)) made → AllByRecursion (λ u. u.number ≡ s.number → ⊥) before
differs k before s behind made h = All-weaker _ _ (λ u g. g.differ) before (pairs_before Beside before s behind h.pairs)

pub find_split : (k : Kind) (line before : List Member) (s : Member) (behind : List Member) (made : ℕ) → Orderly k line made → line ≡ before ++ (s ∷ behind) → find s.number line ≡ Some s
find_split k line before s behind made h e = rw e (find_at before s behind (differs k before s behind made (subst (λ (l : List Member). Orderly k l made) e h)))

pub place_below : (f : List ℕ → ℕ) (ns : List ℕ) → Chooses f → (ns ≡ [] → ⊥) → f ns < length ns
place_below f [] l h = absurd (h refl)
place_below f (n ∷ ns) l h = l n ns

-- what is chosen from an offer can be taken
pub record Taken (f : List ℕ → ℕ) (b : Bench) : Type 0 where
  pub one : Member
  pub here : find (chosen f (offer b)) b.line ≡ Some one
  pub waits : one.status ≡ waiting
  pub allowed : grants (took (chosen f (offer b))) b ≡ true

pub taken : (k : Kind) (c : Card) (r : Result) (f : List ℕ → ℕ) (b : Bench) → Holds k c r b → Chooses f → (offer b ≡ [] → ⊥) → Taken f b
unfolding offer grants can_take
taken k c r f b h l o =
    let w = offered_at b.line [] b.line (f (offer b)) refl (place_below f (offer b) l o) in
    let e = subst (λ (n : ℕ). find n b.line ≡ Some w.one) w.number (find_split k b.line w.before w.one w.behind b.made h.sound.orderly w.split) in
    record { one = w.one; here = e; waits = offered_waits b.line w.one w.offers; allowed = found_test (chosen f (offer b)) b.line (on_offer b.line) w.one e w.offers }

-- No turn is out after a step of the only one whose turn is out.

none_out_members : (n c : ℕ) (x : Next) → any_out (members n c x) ≡ false
unfolding members member any_out is_out
none_out_members n c leaves = refl
none_out_members n c (goes t) = refl
none_out_members n c (makes u t) = refl

none_out_step : (k : Kind) (b : Bench) (s : Member) (f : Found s.number b.line s) → any_out f.before ≡ false → any_out f.behind ≡ false → any_out (step k b s).line ≡ false
unfolding step after_reply bench marked any_out with_status member is_out
none_out_step k b s f e g = go (replied k b s)
  where
    whole : (new : List Member) → any_out new ≡ false → any_out (replace s.number new b.line) ≡ false
    whole new h = ap any_out (f.replaced new) ∙ none_out_append f.before (new ++ f.behind) e (none_out_append new f.behind h g)

    go : (p : Reply) → any_out (after_reply k b s p).line ≡ false
    go (faulted h l) = whole (with_status s (stuck h l) ∷ []) refl
    go (stepped x) = whole (members s.number b.made x) (none_out_members s.number b.made x)

-- A member whose turn was just taken.

marked_found : (b : Bench) (s : Member) (u : Status) → Found s.number b.line s → Found s.number (marked b s u).line (with_status s u)
unfolding marked bench with_status member
marked_found b s u f = record {
  before = f.before;
  behind = f.behind;
  split = f.replaced (with_status s u ∷ []);
  number = refl;
  replaced = λ new. replace_replaced s.number (with_status s u) refl new b.line ∙ f.replaced new;
}

pub marked_find : (b : Bench) (s : Member) (u : Status) → find s.number b.line ≡ Some s → find s.number (marked b s u).line ≡ Some (with_status s u)
unfolding marked bench with_status member
marked_find b s u e = find_replaced s.number (with_status s u) refl b.line s e

-- a turn that was taken is out
pub taken_out : (f : List ℕ → ℕ) (b : Bench) → Taken f b → has_turn (chosen f (offer b)) (put (chosen f (offer b)) out b).line ≡ true
unfolding has_turn is_out with_status member
taken_out f b t =
    let n = chosen f (offer b) in
    let own : t.one.number ≡ n = (found n b.line t.one t.here).number in
    let e : find n (marked b t.one out).line ≡ Some (with_status t.one out) = subst (λ (i : ℕ). find i b.line ≡ Some t.one → find i (marked b t.one out).line ≡ Some (with_status t.one out)) own (marked_find b t.one out) t.here in
    ap (λ (v : Bench). has_turn n v.line) (put_found n out b t.one t.here) ∙ found_test n (marked b t.one out).line (λ s. is_out s.status) (with_status t.one out) e refl

-- the turn of the chosen task is taken and performed by granted events
pub record Turns (k : Kind) (f : List ℕ → ℕ) (b : Bench) : Type 0 where
  pub takes : apply k (took (chosen f (offer b))) b ≡ Some (effect k (took (chosen f (offer b))) b)
  pub performs : apply k (performed (chosen f (offer b))) (effect k (took (chosen f (offer b))) b) ≡ Some (turned k f b)
  pub none_out : any_out (turned k f b).line ≡ false
  pub going_on : (turned k f b).closed ≡ false
  pub falls : left (turned k f b).line < left b.line

turned_is : (k : Kind) (f : List ℕ → ℕ) (b : Bench) (s : Member) → find (chosen f (offer b)) b.line ≡ Some s → find (chosen f (offer b)) (marked b s out).line ≡ Some (with_status s out) → turned k f b ≡ step k (marked b s out) (with_status s out)
unfolding turned effect
turned_is k f b s e g = let n = chosen f (offer b) in ap (advanced k n) (put_found n out b s e) ∙ advanced_found k n (marked b s out) (with_status s out) g

pub turns_taken : (k : Kind) (f : List ℕ → ℕ) (b : Bench) → b.closed ≡ false → any_out b.line ≡ false → Taken f b → Turns k f b
unfolding turned effect grants marked_found with_status member weight
turns_taken k f b z o t =
    let n = chosen f (offer b) in
    let u = t.one in
    let was = found n b.line u t.here in
    let at = found_own n b.line u was in
    let parts = none_out_parts at.before u at.behind (rw at.split at o) in
    let going_on : (put n out b).closed ≡ false = put_closed n out b ∙ z in
    let there : find n (marked b u out).line ≡ Some (with_status u out) = subst (λ (i : ℕ). find i b.line ≡ Some u → find i (marked b u out).line ≡ Some (with_status u out)) was.number (marked_find b u out) t.here in
    let q = turned_is k f b u t.here there in
    let kept = marked_keeps b u out at (ap (λ (v : Status). weight v u.task) (sym t.waits)) in
    record {
      takes = apply_granted k (took n) b z t.allowed;
      performs = apply_granted k (performed n) (put n out b) going_on (taken_out f b t);
      none_out = ap (λ (v : Bench). any_out v.line) q ∙ none_out_step k (marked b u out) (with_status u out) (marked_found b u out at) parts.0 parts.1;
      going_on = advanced_closed k n (put n out b) ∙ going_on;
      falls = omega (arith, step_falls k (marked b u out) (with_status u out) (marked_found b u out at) refl, ap (λ (v : Bench). left v.line) q);
    }

-- a task that can be taken is chosen
pub chosen_taken : (f : List ℕ → ℕ) (b : Bench) → can_take (chosen f (offer b)) b.line ≡ true → Taken f b
unfolding grants can_take
chosen_taken f b e =
    let w = test_found (chosen f (offer b)) b.line (on_offer b.line) e in
    record { one = w.0; here = w.1; waits = offered_waits b.line w.0 w.2; allowed = e }

pub turns : (k : Kind) (c : Card) (r : Result) (f : List ℕ → ℕ) (b : Bench) → Holds k c r b → b.closed ≡ false → any_out b.line ≡ false → settled b ≡ false → Chooses f → Turns k f b
unfolding settled offer
turns k c r f b h z o s l =
    let some_offered : offer b ≡ [] → ⊥ = ⊎_elim (λ e. cc) (λ e. e) (first_offered b.line s) in
    turns_taken k f b z o (taken k c r f b h l some_offered)
