-- A line's words, by its first space.
use Rattle.std.proofs.Common.{◌≡◌, ℕ, Bool, true, false, eqb, List, [], ◌∷◌, sym, refl, ap, ◌∙◌, add-one, one-add, arith}
use Rattle.std.proofs.lemmas.Bool.{false≢true, lt-ltb, ltb-true, ltb-false, le-ltb}
use Rattle.words.specs.Cuts.{has, before, after}
use Rattle.words.specs.Tokens.{words, onto}

pub words_has : (s : List ℕ) → has 32 s ≡ true → words s ≡ before 32 s ∷ words (after 32 s)
words_has [] h = absurd (false≢true h)
words_has (b ∷ bs) h = go (eqb b 32) refl (words_has bs)
  where
    go : (t : Bool) → eqb b 32 ≡ t → (has 32 bs ≡ true → words bs ≡ before 32 bs ∷ words (after 32 bs)) → words (b ∷ bs) ≡ before 32 (b ∷ bs) ∷ words (after 32 (b ∷ bs))
    go true e ih = simp e
    go false e ih =
        let h2 : has 32 bs ≡ true = lt-ltb _ _ (omega (arith, ltb-true _ _ (simp e at h))) in
        simp (e, one-add, add-one) (ap (onto b) (simp add-one at (ih h2)))

pub words_none : (s : List ℕ) → has 32 s ≡ false → words s ≡ s ∷ []
words_none [] h = refl
words_none (b ∷ bs) h = go (eqb b 32) refl (words_none bs)
  where
    go : (t : Bool) → eqb b 32 ≡ t → (has 32 bs ≡ false → words bs ≡ bs ∷ []) → words (b ∷ bs) ≡ (b ∷ bs) ∷ []
    go true e ih = absurd (false≢true (sym h ∙ simp e (lt-ltb _ _ (omega arith))))
    go false e ih =
        let h2 : has 32 bs ≡ false = le-ltb _ _ (omega (arith, ltb-false _ _ (simp e at h))) in
        simp e (ap (onto b) (ih h2))
