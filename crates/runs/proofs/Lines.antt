-- Members of a line: where one stands, and the line with others in its place.
use Rattle.std.proofs.Common.{◌≡◌, ℕ, Bool, true, false, cond, eqb, List, [], ◌∷◌, ◌++◌, map, Some, sym, refl, ap, subst, arith}
use Rattle.std.specs.List.{AllByRecursion}
use Rattle.std.proofs.lemmas.List.{map-append}
use Rattle.std.proofs.lemmas.Bool.{eqb-true, ne_eqb, eq-eqb}
use Rattle.working.specs.Tasks.{Task}
use Rattle.runs.specs.Lines.{Status, waiting, out, stuck, is_out, Member, member, with_status, find, replace, any_out}

abbrev pub tasks : List Member → List Task
tasks ss = map (λ s. s.task) ss

pub same_tasks : (before : List Member) (s : Member) (u : Status) (behind : List Member) → tasks (before ++ (with_status s u ∷ behind)) ≡ tasks (before ++ (s ∷ behind))
unfolding with_status member
same_tasks before s u behind = simp map-append

pub out_is : (s : Status) → is_out s ≡ true → s ≡ out
unfolding is_out
out_is waiting e = cc
out_is out e = refl
out_is (stuck f l) e = cc

-- the member that is numbered n stands somewhere in the line
pub record Found (n : ℕ) (line : List Member) (s : Member) : Type 0 where
  pub before : List Member
  pub behind : List Member
  pub split : line ≡ before ++ (s ∷ behind)
  pub number : s.number ≡ n
  pub replaced : (new : List Member) → replace n new line ≡ before ++ (new ++ behind)

found_here : (n : ℕ) (s : Member) (ss : List Member) → eqb s.number n ≡ true → Found n (s ∷ ss) s
unfolding replace
found_here n s ss e = record { before = []; behind = ss; split = refl; number = eqb-true s.number n e; replaced = λ new. rw e }

found_later : (n : ℕ) (u : Member) (us : List Member) (s : Member) → eqb u.number n ≡ false → Found n us s → Found n (u ∷ us) s
unfolding replace
found_later n u us s e f = record {
  before = u ∷ f.before;
  behind = f.behind;
  split = ap (λ (r : List Member). u ∷ r) f.split;
  number = f.number;
  replaced = λ new. rw e (ap (λ (r : List Member). u ∷ r) (f.replaced new));
}

pub found : (n : ℕ) (line : List Member) (s : Member) → find n line ≡ Some s → Found n line s
unfolding find
found n [] s h = cc
found n (u ∷ us) s h = go (eqb u.number n) refl h (found n us s)
  where
    go : (x : Bool) → eqb u.number n ≡ x → cond x (Some u) (find n us) ≡ Some s → (find n us ≡ Some s → Found n us s) → Found n (u ∷ us) s
    go true e g f = let p : u ≡ s = cc in subst (Found n (u ∷ us)) p (found_here n u us e)
    go false e g f = found_later n u us s e (f g)

pub find_at : (before : List Member) (s : Member) (behind : List Member) → AllByRecursion (λ u. u.number ≡ s.number → ⊥) before → find s.number (before ++ (s ∷ behind)) ≡ Some s
unfolding find
find_at [] s behind h = rw (eq-eqb s.number s.number refl)
find_at (u ∷ us) s behind h = rw (ne_eqb u.number s.number h.0) (find_at us s behind h.1)

pub found_own : (n : ℕ) (line : List Member) (s : Member) → Found n line s → Found s.number line s
found_own n line s f = subst (λ (i : ℕ). Found i line s) (sym f.number) f

-- another member in the place of one that is found is found there, and can itself be replaced

pub find_replaced : (n : ℕ) (w : Member) → w.number ≡ n → (line : List Member) (s : Member) → find n line ≡ Some s → find n (replace n (w ∷ []) line) ≡ Some w
unfolding find replace
find_replaced n w e [] s h = cc
find_replaced n w e (u ∷ us) s h = go (eqb u.number n) refl h (find_replaced n w e us s)
  where
    go : (x : Bool) → eqb u.number n ≡ x → cond x (Some u) (find n us) ≡ Some s → (find n us ≡ Some s → find n (replace n (w ∷ []) us) ≡ Some w) → find n (cond x (w ∷ us) (u ∷ replace n (w ∷ []) us)) ≡ Some w
    go true q g f = rw (eq-eqb w.number n e)
    go false q g f = rw q (f g)

pub replace_replaced : (n : ℕ) (w : Member) → w.number ≡ n → (new line : List Member) → replace n new (replace n (w ∷ []) line) ≡ replace n new line
unfolding replace
replace_replaced n w e new [] = refl
replace_replaced n w e new (u ∷ us) = go (eqb u.number n) refl (replace_replaced n w e new us)
  where
    go : (x : Bool) → eqb u.number n ≡ x → replace n new (replace n (w ∷ []) us) ≡ replace n new us → replace n new (cond x (w ∷ us) (u ∷ replace n (w ∷ []) us)) ≡ cond x (new ++ us) (u ∷ replace n new us)
    go true q h = rw (eq-eqb w.number n e)
    go false q h = rw q (ap (λ (r : List Member). u ∷ r) h)

-- Turns that are out.

pub out_somewhere : (before : List Member) (s : Member) (behind : List Member) → s.status ≡ out → any_out (before ++ (s ∷ behind)) ≡ true
unfolding any_out is_out
out_somewhere [] s behind e = rw e
out_somewhere (u ∷ us) s behind e = grind (arith, out_somewhere us s behind e)

pub none_out_parts : (before : List Member) (s : Member) (behind : List Member) → any_out (before ++ (s ∷ behind)) ≡ false → (any_out before ≡ false) × (any_out behind ≡ false)
unfolding any_out
none_out_parts [] s behind e = (refl, grind arith)
none_out_parts (u ∷ us) s behind e = grind (arith, none_out_parts us s behind)

pub none_out_append : (xs ys : List Member) → any_out xs ≡ false → any_out ys ≡ false → any_out (xs ++ ys) ≡ false
unfolding any_out
none_out_append [] ys e g = g
none_out_append (x ∷ xs) ys e g = grind (arith, none_out_append xs ys)
