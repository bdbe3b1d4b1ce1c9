-- Two tasks that do not bar each other: what they ask commutes.
use Rattle.std.proofs.Common.{◌≡◌, ℕ, zero, suc, ◌≢◌, List, [], ◌∷◌, get_or, set, sym, refl, ap, ⊎_elim}
use Rattle.std.specs.List.{AllByRecursion}
use Rattle.std.proofs.lemmas.List.{get_or-set_other, set_comm}
use Rattle.std.proofs.lemmas.Bool.{cases_eq}
use Rattle.kinds.specs.Kinds.{IsWord, Kind, Lawful}
use Rattle.cards.specs.declared.lines.Access.{Access}
use Rattle.cards.specs.declared.lines.Access.TheVariants.{Rd, Wr, Cm}
use Rattle.cards.specs.declared.lines.Level.TheVariants.{Absent, Immediate}
use Rattle.working.specs.Tasks.{Task}
use Rattle.working.specs.Requests.{Request, fault, quiet, read, write, join, stored, stepped, reply}
use Rattle.working.proofs.Fine.{at, Within}
use Rattle.runs.proofs.Requests.{Allowed}
use Rattle.runs.proofs.Words.{Keeps}

-- an access that an earlier task may not hold when a is immediate
pub data Bars : Access → Access → Type 0 where
  rd_wr : Bars Rd Wr
  rd_cm : Bars Rd Cm
  wr_rd : Bars Wr Rd
  wr_wr : Bars Wr Wr
  wr_cm : Bars Wr Cm
  cm_rd : Bars Cm Rd
  cm_wr : Bars Cm Wr

-- the earlier task u does not bar t
abbrev pub Apart : Task → Task → Type 0
Apart u t = (o : ℕ) (a b : Access) → at t o a ≡ Immediate → Bars a b → at u o b ≡ Absent

pub apart_within : (u v t : Task) → Within u v → Apart u t → Apart v t
apart_within u v t w p o a b i x = w o b (p o a b i x)

-- two tasks that are apart, with accesses that bar each other, use different objects
differ : (u t : Task) (a b : Access) (i j : ℕ) → Apart u t → at t j a ≡ Immediate → at u i b ≡ Immediate → Bars a b → i ≢ j
differ u t a b i j p h g x e = let q : at u i b ≡ Absent = rw e (p j a b h x) in cc

-- Two joins, in either order.

abbrev joined : Kind → List ℕ → ℕ → ℕ → List ℕ
joined k m o w = set m o (k.join (get_or m o 0) w)

join_same : (k : Kind) → Lawful k → (m : List ℕ) (i w v : ℕ) → AllByRecursion IsWord m → IsWord w → IsWord v → joined k (joined k m i w) i v ≡ joined k (joined k m i v) i w
join_same k law [] i w v h p q = refl
join_same k law (x ∷ xs) zero w v h p q = ap (λ (y : ℕ). y ∷ xs) (law.exchange x w v h.0 p q)
join_same k law (x ∷ xs) (suc i) w v h p q = ap (λ (r : List ℕ). x ∷ r) (join_same k law xs i w v h.1 p q)

join_other : (k : Kind) (m : List ℕ) (i j w v : ℕ) → i ≢ j → joined k (joined k m i w) j v ≡ joined k (joined k m j v) i w
join_other k m i j w v ne = rw (get_or-set_other m i j (k.join (get_or m i 0) w) 0 (λ e. ne (sym e)), get_or-set_other m j i (k.join (get_or m j 0) v) 0 ne) (set_comm m i j _ _ ne)

join_join : (k : Kind) → Lawful k → (m : List ℕ) (i j w v : ℕ) → AllByRecursion IsWord m → IsWord w → IsWord v → joined k (joined k m i w) j v ≡ joined k (joined k m j v) i w
join_join k law m i j w v h p q = ⊎_elim (λ e. rw e (join_same k law m j w v h p q)) (join_other k m i j w v) (cases_eq i j)

-- Two requests commute when their tasks are apart: the words, and what each comes to.
pub commute_stored : (k : Kind) → Lawful k → (u t : Task) (q r : Request) (m : List ℕ) → Apart u t → Allowed u q → Allowed t r → AllByRecursion IsWord m → Keeps q → Keeps r → stored k (stored k m q) r ≡ stored k (stored k m r) q
unfolding stored
commute_stored k law u t (fault f l) r m p g h ws kq kr = refl
commute_stored k law u t (quiet n) r m p g h ws kq kr = refl
commute_stored k law u t (read o n) r m p g h ws kq kr = refl
commute_stored k law u t (write o w n) (fault f l) m p g h ws kq kr = refl
commute_stored k law u t (write o w n) (quiet x) m p g h ws kq kr = refl
commute_stored k law u t (write o w n) (read j x) m p g h ws kq kr = refl
commute_stored k law u t (write o w n) (write j v x) m p g h ws kq kr = set_comm m o j w v (differ u t Wr Wr o j p h g wr_wr)
commute_stored k law u t (write o w n) (join j v x) m p g h ws kq kr = let ne = differ u t Cm Wr o j p h g cm_wr in rw (get_or-set_other m o j w 0 (λ e. ne (sym e))) (set_comm m o j w _ ne)
commute_stored k law u t (join o w n) (fault f l) m p g h ws kq kr = refl
commute_stored k law u t (join o w n) (quiet x) m p g h ws kq kr = refl
commute_stored k law u t (join o w n) (read j x) m p g h ws kq kr = refl
commute_stored k law u t (join o w n) (write j v x) m p g h ws kq kr = let ne = differ u t Wr Cm o j p h g wr_cm in rw (get_or-set_other m j o v 0 ne) (set_comm m o j _ v ne)
commute_stored k law u t (join o w n) (join j v x) m p g h ws kq kr = join_join k law m o j w v ws kq.0 kr.0

-- what t asks comes to the same after a request of u, and the other way round
pub later_reply : (k : Kind) (u t : Task) (q r : Request) (m : List ℕ) → Apart u t → Allowed u q → Allowed t r → reply (stored k m q) r ≡ reply m r
unfolding stored reply
later_reply k u t q (fault f l) m p g h = refl
later_reply k u t q (quiet n) m p g h = refl
later_reply k u t (fault f l) (read j n) m p g h = refl
later_reply k u t (quiet x) (read j n) m p g h = refl
later_reply k u t (read o x) (read j n) m p g h = refl
later_reply k u t (write o w x) (read j n) m p g h = ap (λ (y : ℕ). stepped (n y)) (get_or-set_other m o j w 0 (λ e. differ u t Rd Wr o j p h g rd_wr (sym e)))
later_reply k u t (join o w x) (read j n) m p g h = ap (λ (y : ℕ). stepped (n y)) (get_or-set_other m o j _ 0 (λ e. differ u t Rd Cm o j p h g rd_cm (sym e)))
later_reply k u t q (write j v n) m p g h = refl
later_reply k u t q (join j v n) m p g h = refl

pub first_reply : (k : Kind) (u t : Task) (q r : Request) (m : List ℕ) → Apart u t → Allowed u q → Allowed t r → reply (stored k m r) q ≡ reply m q
unfolding stored reply
first_reply k u t (fault f l) r m p g h = refl
first_reply k u t (quiet n) r m p g h = refl
first_reply k u t (read o x) (fault f l) m p g h = refl
first_reply k u t (read o x) (quiet n) m p g h = refl
first_reply k u t (read o x) (read j n) m p g h = refl
first_reply k u t (read o x) (write j v n) m p g h = ap (λ (y : ℕ). stepped (x y)) (get_or-set_other m j o v 0 (differ u t Wr Rd o j p h g wr_rd))
first_reply k u t (read o x) (join j v n) m p g h = ap (λ (y : ℕ). stepped (x y)) (get_or-set_other m j o _ 0 (differ u t Cm Rd o j p h g cm_rd))
first_reply k u t (write o w x) r m p g h = refl
first_reply k u t (join o w x) r m p g h = refl
