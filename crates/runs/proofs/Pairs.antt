-- What holds of the elements of a list with others in the place of one, and of each pair of elements in order.
use Rattle.std.proofs.Common.{List, [], ◌∷◌, ◌++◌}
use Rattle.std.specs.List.{AllByRecursion}
use Rattle.std.proofs.ByRecursion.{All-append, All-weaker}

module _ {A : Type 0} where
  pub all_left : (P : A → Type 0) (xs ys : List A) → AllByRecursion P (xs ++ ys) → AllByRecursion P xs
  all_left P [] ys h = tt
  all_left P (x ∷ xs) ys h = (h.0, all_left P xs ys h.1)

  pub all_right : (P : A → Type 0) (xs ys : List A) → AllByRecursion P (xs ++ ys) → AllByRecursion P ys
  all_right P [] ys h = h
  all_right P (x ∷ xs) ys h = all_right P xs ys h.1

  pub all_both : (P Q R : A → Type 0) → ((x : A) → P x → Q x → R x) → (xs : List A) → AllByRecursion P xs → AllByRecursion Q xs → AllByRecursion R xs
  all_both P Q R f [] a b = tt
  all_both P Q R f (x ∷ xs) a b = (f x a.0 b.0, all_both P Q R f xs a.1 b.1)

  all_swap : (R : A → A → Type 0) (us vs : List A) → AllByRecursion (λ v. AllByRecursion (λ u. R u v) us) vs → AllByRecursion (λ u. AllByRecursion (R u) vs) us
  all_swap R [] vs h = tt
  all_swap R (u ∷ us) vs h = (All-weaker _ _ (λ v g. g.0) vs h, all_swap R us vs (All-weaker _ _ (λ v g. g.1) vs h))

  -- R x y for each x that stands before y
  abbrev pub Pairs : (A → A → Type 0) → List A → Type 0
  Pairs R [] = Unit {0}
  Pairs R (x ∷ xs) = AllByRecursion (R x) xs × Pairs R xs

  pairs_append : (R : A → A → Type 0) (xs ys : List A) → Pairs R xs → Pairs R ys → AllByRecursion (λ x. AllByRecursion (R x) ys) xs → Pairs R (xs ++ ys)
  pairs_append R [] ys h k c = k
  pairs_append R (x ∷ xs) ys h k c = (All-append (R x) xs ys h.0 c.0, pairs_append R xs ys h.1 k c.1)

  pairs_left : (R : A → A → Type 0) (xs ys : List A) → Pairs R (xs ++ ys) → Pairs R xs
  pairs_left R [] ys h = tt
  pairs_left R (x ∷ xs) ys h = (all_left (R x) xs ys h.0, pairs_left R xs ys h.1)

  pairs_right : (R : A → A → Type 0) (xs ys : List A) → Pairs R (xs ++ ys) → Pairs R ys
  pairs_right R [] ys h = h
  pairs_right R (x ∷ xs) ys h = pairs_right R xs ys h.1

  pairs_across : (R : A → A → Type 0) (xs ys : List A) → Pairs R (xs ++ ys) → AllByRecursion (λ x. AllByRecursion (R x) ys) xs
  pairs_across R [] ys h = tt
  pairs_across R (x ∷ xs) ys h = (all_right (R x) xs ys h.0, pairs_across R xs ys h.1)

  -- Others in the place of s.

  pub all_update : (P : A → Type 0) (before : List A) (s : A) (behind new : List A) → AllByRecursion P (before ++ (s ∷ behind)) → AllByRecursion P new → AllByRecursion P (before ++ (new ++ behind))
  all_update P before s behind new h g = All-append P before (new ++ behind) (all_left P before (s ∷ behind) h) (All-append P new behind g (all_right P before (s ∷ behind) h).1)

  pub all_at : (P : A → Type 0) (before : List A) (s : A) (behind : List A) → AllByRecursion P (before ++ (s ∷ behind)) → P s
  all_at P before s behind h = (all_right P before (s ∷ behind) h).0

  pub pairs_before : (R : A → A → Type 0) (before : List A) (s : A) (behind : List A) → Pairs R (before ++ (s ∷ behind)) → AllByRecursion (λ u. R u s) before
  pairs_before R before s behind h = All-weaker _ _ (λ u g. g.0) before (pairs_across R before (s ∷ behind) h)

  pub pairs_behind : (R : A → A → Type 0) (before : List A) (s : A) (behind : List A) → Pairs R (before ++ (s ∷ behind)) → AllByRecursion (R s) behind
  pairs_behind R before s behind h = (pairs_right R before (s ∷ behind) h).0

  pub pairs_update : (R : A → A → Type 0) (before : List A) (s : A) (behind new : List A) → Pairs R (before ++ (s ∷ behind)) → AllByRecursion (λ u. AllByRecursion (R u) new) before → Pairs R new → AllByRecursion (λ v. AllByRecursion (λ u. R u v) new) behind → Pairs R (before ++ (new ++ behind))
  pairs_update R before s behind new h a b c =
      pairs_append R before (new ++ behind) (pairs_left R before (s ∷ behind) h) (pairs_append R new behind b (pairs_right R before (s ∷ behind) h).1 (all_swap R new behind c))
      (all_both _ _ _ (λ u x y. All-append (R u) new behind x y) before a (All-weaker _ _ (λ u g. g.1) before (pairs_across R before (s ∷ behind) h)))
