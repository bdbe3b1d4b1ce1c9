-- Rows of numbered elements, by places.
use Rattle.std.proofs.Common.{◌≡◌, ℕ, suc, ◌<◌, ◌≤◌, Bool, true, false, cond, eqb, ltb, List, [], ◌∷◌, length, set, Option, Some, None, unwrap_or, position, sym, refl, ap, ◌∙◌, arith}
use Rattle.std.specs.List.{insert, remove, position_or_len}
use Rattle.std.proofs.lemmas.List.Recursion.{is_position_or_len}
use Rattle.std.proofs.lemmas.Bool.{ltb-true, ltb-false}
use Rattle.lines.specs.Rows.{put_before, without, revised}

module _ {A : Type 0} (number : A → ℕ) (n : ℕ) where
  -- how many elements stand before the first numbered n
  unfoldable ahead : List A → ℕ
  ahead [] = 0
  ahead (x ∷ xs) = cond (eqb (number x) n) 0 (suc (ahead xs))

  put_place : (y : A) (xs : List A) → insert xs (ahead xs) y ≡ put_before number n y xs
  unfolding ahead put_before
  put_place y [] = refl
  put_place y (x ∷ xs) = go (put_place y xs) (eqb (number x) n)
    where
      go : insert xs (ahead xs) y ≡ put_before number n y xs → (b : Bool) → insert (x ∷ xs) (cond b 0 (suc (ahead xs))) y ≡ cond b (y ∷ x ∷ xs) (x ∷ put_before number n y xs)
      go h true = refl
      go h false = ap (λ (l : List A). x ∷ l) h

  out_place : (xs : List A) → ahead xs < length xs → remove xs (ahead xs) ≡ without number n xs
  unfolding ahead without
  out_place [] lt = refl
  out_place (x ∷ xs) lt = go (out_place xs) (eqb (number x) n) lt
    where
      go : (ahead xs < length xs → remove xs (ahead xs) ≡ without number n xs) → (b : Bool) → cond b 0 (suc (ahead xs)) < suc (length xs) → remove (x ∷ xs) (cond b 0 (suc (ahead xs))) ≡ cond b xs (x ∷ without number n xs)
      go h true l = refl
      go h false l = ap (λ (l : List A). x ∷ l) (h (omega arith))

  out_missed : (xs : List A) → length xs ≤ ahead xs → xs ≡ without number n xs
  unfolding ahead without
  out_missed [] le = refl
  out_missed (x ∷ xs) le = go (out_missed xs) (eqb (number x) n) le
    where
      go : (length xs ≤ ahead xs → xs ≡ without number n xs) → (b : Bool) → suc (length xs) ≤ cond b 0 (suc (ahead xs)) → x ∷ xs ≡ cond b xs (x ∷ without number n xs)
      go h true l = absurd (omega arith)
      go h false l = ap (λ (l : List A). x ∷ l) (h (omega arith))

  set_place : (y : A) (xs : List A) → set xs (ahead xs) y ≡ revised number n y xs
  unfolding ahead revised
  set_place y [] = refl
  set_place y (x ∷ xs) = go (set_place y xs) (eqb (number x) n)
    where
      go : set xs (ahead xs) y ≡ revised number n y xs → (b : Bool) → set (x ∷ xs) (cond b 0 (suc (ahead xs))) y ≡ cond b (y ∷ xs) (x ∷ revised number n y xs)
      go h true = refl
      go h false = ap (λ (l : List A). x ∷ l) h

  set_missed : (y : A) (xs : List A) → length xs ≤ ahead xs → xs ≡ revised number n y xs
  unfolding ahead revised
  set_missed y [] le = refl
  set_missed y (x ∷ xs) le = go (set_missed y xs) (eqb (number x) n) le
    where
      go : (length xs ≤ ahead xs → xs ≡ revised number n y xs) → (b : Bool) → suc (length xs) ≤ cond b 0 (suc (ahead xs)) → x ∷ xs ≡ cond b (y ∷ xs) (x ∷ revised number n y xs)
      go h true l = absurd (omega arith)
      go h false l = ap (λ (l : List A). x ∷ l) (h (omega arith))

  -- where the search finds it

  ahead_within : (xs : List A) → ahead xs ≤ length xs
  unfolding ahead
  ahead_within [] = omega arith
  ahead_within (x ∷ xs) = go (ahead_within xs) (eqb (number x) n)
    where
      go : ahead xs ≤ length xs → (b : Bool) → cond b 0 (suc (ahead xs)) ≤ suc (length xs)
      go h true = omega arith
      go h false = omega arith

  ahead_is : (xs : List A) → ahead xs ≡ position_or_len (λ x. eqb (number x) n) xs
  unfolding ahead
  ahead_is xs = is_position_or_len (ahead) (λ x. eqb (number x) n) refl (λ x xs. ap (cond (eqb (number x) n) 0) (omega arith)) xs

  found_at : (xs : List A) (at : ℕ) → position (λ x. eqb (number x) n) xs ≡ Some at → (at ≡ ahead xs) × (at < length xs)
  found_at xs at h = go (ltb (position_or_len (λ x. eqb (number x) n) xs) (length xs)) refl h
    where
      go : (b : Bool) → ltb (position_or_len (λ x. eqb (number x) n) xs) (length xs) ≡ b → cond b (Some (position_or_len (λ x. eqb (number x) n) xs)) None ≡ Some at → (at ≡ ahead xs) × (at < length xs)
      go true lt e = let is : at ≡ (position_or_len (λ x. eqb (number x) n) xs) = cc in (is ∙ sym (ahead_is xs), omega (arith, is, ltb-true (position_or_len (λ x. eqb (number x) n) xs) (length xs) lt))
      go false lt e = absurd cc

  missed : (xs : List A) → position (λ x. eqb (number x) n) xs ≡ None → length xs ≤ ahead xs
  missed xs h = go (ltb (position_or_len (λ x. eqb (number x) n) xs) (length xs)) refl h
    where
      go : (b : Bool) → ltb (position_or_len (λ x. eqb (number x) n) xs) (length xs) ≡ b → cond b (Some (position_or_len (λ x. eqb (number x) n) xs)) None ≡ None → length xs ≤ ahead xs
      go true lt e = absurd cc
      go false lt e = omega (arith, ahead_is xs, ltb-false (position_or_len (λ x. eqb (number x) n) xs) (length xs) lt)

  place_or_end : (xs : List A) → unwrap_or (position (λ x. eqb (number x) n) xs) (length xs) ≡ ahead xs
  place_or_end xs = go (position (λ x. eqb (number x) n) xs) refl
    where
      go : (o : Option ℕ) → position (λ x. eqb (number x) n) xs ≡ o → unwrap_or o (length xs) ≡ ahead xs
      go (Some at) e = (found_at xs at e).0
      go None e = omega (arith, missed xs e, ahead_within xs)

  -- at the place that was found

  pub put_at : (y : A) (xs : List A) (at : ℕ) → at ≡ unwrap_or (position (λ x. eqb (number x) n) xs) (length xs) → insert xs at y ≡ put_before number n y xs
  put_at y xs at e = ap (λ (k : ℕ). insert xs k y) (e ∙ place_or_end xs) ∙ put_place y xs

  pub out_at : (xs : List A) (at : ℕ) → position (λ x. eqb (number x) n) xs ≡ Some at → remove xs at ≡ without number n xs
  out_at xs at h = let f = found_at xs at h in ap (remove xs) f.0 ∙ out_place xs (omega (arith, f.0, f.1))

  pub set_at : (y : A) (xs : List A) (at : ℕ) → position (λ x. eqb (number x) n) xs ≡ Some at → set xs at y ≡ revised number n y xs
  set_at y xs at h = ap (λ (k : ℕ). set xs k y) (found_at xs at h).0 ∙ set_place y xs

  pub out_none : (xs : List A) → position (λ x. eqb (number x) n) xs ≡ None → xs ≡ without number n xs
  out_none xs h = out_missed xs (missed xs h)

  pub set_none : (y : A) (xs : List A) → position (λ x. eqb (number x) n) xs ≡ None → xs ≡ revised number n y xs
  set_none y xs h = set_missed y xs (missed xs h)
