-- Words and lines: put together again, and cut out again.
use Rattle.std.proofs.Common.{◌≡◌, ℕ, suc, ◌+◌, ◌*◌, ◌<◌, ◌≤◌, Bool, true, false, cond, not, ◌&&◌, eqb, ltb, List, [], ◌∷◌, ◌++◌, length, drop, IfOk, Ok, Err, sym, refl, ap, ◌∙◌, add-one, one-add, arith, length-append}
use Rattle.std.specs.List.{AllByRecursion}
use Rattle.std.proofs.lemmas.List.{append-nil, take_at}
use Rattle.std.proofs.lemmas.Bool.{and_parts, not-true, eqb-true, false≢true, lt-ltb, ltb-true, ne_eqb}
use Rattle.words.specs.Cuts.{upto, has, before, after}
use Rattle.words.specs.Tokens.{words, onto}
use Rattle.loading.specs.declared.refusal.LineFault.{LineFault}
use Rattle.loading.specs.declared.refusal.LineFault.TheVariants.{Missing, Unended}
use Rattle.loading.specs.Texts.{text_line}
use Rattle.written.specs.Written.{unwords, line}

-- Back.

onto_back : (b : ℕ) (ws : List (List ℕ)) → unwords (onto b ws) ≡ b ∷ unwords ws
onto_back b [] = refl
onto_back b (w ∷ []) = refl
onto_back b (w ∷ v ∷ ws) = refl

new_back : (b : ℕ) (ws : List (List ℕ)) → unwords ([] ∷ onto b ws) ≡ 32 ∷ unwords (onto b ws)
new_back b [] = refl
new_back b (w ∷ ws) = refl

blank_back : (s : List ℕ) → unwords ([] ∷ words s) ≡ 32 ∷ unwords (words s)
blank_back [] = refl
blank_back (b ∷ bs) = go (eqb b 32)
  where
    go : (t : Bool) → unwords ([] ∷ cond t ([] ∷ words bs) (onto b (words bs))) ≡ 32 ∷ unwords (cond t ([] ∷ words bs) (onto b (words bs)))
    go true = refl
    go false = new_back b (words bs)

pub words_back : (s : List ℕ) → s ≡ unwords (words s)
words_back [] = refl
words_back (b ∷ bs) = go (eqb b 32) refl (words_back bs)
  where
    go : (t : Bool) → eqb b 32 ≡ t → bs ≡ unwords (words bs) → b ∷ bs ≡ unwords (cond t ([] ∷ words bs) (onto b (words bs)))
    go true e ih = ap (λ x. x ∷ bs) (eqb-true _ _ e) ∙ ap (λ t. 32 ∷ t) ih ∙ sym (blank_back bs)
    go false e ih = ap (λ t. b ∷ t) ih ∙ sym (onto_back b (words bs))

cut_back : (s : List ℕ) → has 10 s ≡ true → s ≡ before 10 s ++ 10 ∷ after 10 s
cut_back [] h = absurd (false≢true h)
cut_back (b ∷ bs) h = go (eqb b 10) refl (cut_back bs)
  where
    go : (t : Bool) → eqb b 10 ≡ t → (has 10 bs ≡ true → bs ≡ before 10 bs ++ 10 ∷ after 10 bs) → b ∷ bs ≡ before 10 (b ∷ bs) ++ 10 ∷ after 10 (b ∷ bs)
    go true e ih = simp e (ap (λ x. x ∷ bs) (eqb-true _ _ e))
    go false e ih =
        let h2 : has 10 bs ≡ true = lt-ltb _ _ (omega (arith, ltb-true _ _ (simp e at h))) in
        simp (e, one-add, add-one) (ap (λ t. b ∷ t) (simp add-one at (ih h2)))

-- a text begins with the words of its first line
pub line_back : (s : List ℕ) (n : ℕ) → IfOk (text_line s n) (λ b. s ≡ line (words b) (after 10 s))
unfolding text_line
line_back s n = go (eqb (length s) 0)
  where
    ended : (t : Bool) → has 10 s ≡ t → IfOk {E = LineFault} (cond t (Ok (before 10 s)) (Err (Unended n))) (λ b. s ≡ line (words b) (after 10 s))
    ended true h = cut_back s h ∙ ap (λ t. t ++ 10 ∷ after 10 s) (words_back (before 10 s))
    ended false h = tt

    go : (t : Bool) → IfOk {E = LineFault} (cond t (Err (Missing n)) (cond (has 10 s) (Ok (before 10 s)) (Err (Unended n)))) (λ b. s ≡ line (words b) (after 10 s))
    go true = tt
    go false = ended (has 10 s) refl

-- Forth.

-- neither a space nor a line end is in a word, nor anything below
abbrev pub plain : List ℕ → Bool
plain [] = true
plain (b ∷ bs) = ltb 32 b && plain bs

-- a word of at most 7 bytes
abbrev pub Word : List ℕ → Type 0
Word w = (plain w ≡ true) × (length w ≤ 7)

-- a line has a first word, at most three, and each is a word
pub record Words (ws : List (List ℕ)) : Type 0 where
  pub some : 0 < length ws
  pub few : length ws ≤ 3
  pub words : AllByRecursion Word ws

apart : (b c : ℕ) → c ≤ 32 → ltb 32 b ≡ true → eqb b c ≡ false
apart b c h e = ne_eqb b c (λ z. omega (arith, ltb-true 32 b e))

words_one : (w : List ℕ) → plain w ≡ true → words w ≡ w ∷ []
words_one [] p = refl
words_one (b ∷ bs) p = let q = and_parts (ltb 32 b) (plain bs) p in rw (apart b 32 (omega arith) q.0) (ap (onto b) (words_one bs q.1))

words_cut : (w s : List ℕ) → plain w ≡ true → words (w ++ 32 ∷ s) ≡ w ∷ words s
words_cut [] s p = refl
words_cut (b ∷ bs) s p = let q = and_parts (ltb 32 b) (plain bs) p in rw (apart b 32 (omega arith) q.0) (ap (onto b) (words_cut bs s q.1))

words_all : (w : List ℕ) (ws : List (List ℕ)) → AllByRecursion Word (w ∷ ws) → words (unwords (w ∷ ws)) ≡ w ∷ ws
words_all w [] p = words_one w p.0.0
words_all w (v ∷ ws) p = words_cut w (unwords (v ∷ ws)) p.0.0 ∙ ap (λ t. w ∷ t) (words_all v ws p.1)

pub words_forth : (ws : List (List ℕ)) → Words ws → words (unwords ws) ≡ ws
words_forth [] p = absurd (omega (arith, p.some))
words_forth (w ∷ ws) p = words_all w ws p.words

-- no line end is in the words
abbrev unbroken : List ℕ → Bool
unbroken [] = true
unbroken (b ∷ bs) = not (eqb b 10) && unbroken bs

unbroken_word : (w s : List ℕ) → plain w ≡ true → unbroken s ≡ true → unbroken (w ++ s) ≡ true
unbroken_word [] s p h = h
unbroken_word (b ∷ bs) s p h = let q = and_parts (ltb 32 b) (plain bs) p in rw (apart b 10 (omega arith) q.0) (unbroken_word bs s q.1 h)

unbroken_line : (ws : List (List ℕ)) → AllByRecursion Word ws → unbroken (unwords ws) ≡ true
unbroken_line [] p = refl
unbroken_line (w ∷ []) p = rw append-nil at (unbroken_word w [] p.0.0 refl)
unbroken_line (w ∷ v ∷ ws) p = unbroken_word w (32 ∷ unwords (v ∷ ws)) p.0.0 (unbroken_line (v ∷ ws) p.1)

upto_line : (w r : List ℕ) → unbroken w ≡ true → upto 10 (w ++ 10 ∷ r) ≡ length w
upto_line [] r f = refl
upto_line (b ∷ bs) r f = let q = and_parts (not (eqb b 10)) (unbroken bs) f in rw (not-true _ q.0) (rw one-add (ap suc (upto_line bs r q.1)))

drop_past : (v r : List ℕ) → drop (length v + 1) (v ++ 10 ∷ r) ≡ r
drop_past [] r = refl
drop_past (b ∷ bs) r = simp add-one (simp add-one at (drop_past bs r))

module _ (ws : List (List ℕ)) (r : List ℕ) (p : Words ws) where
  at_end : upto 10 (line ws r) ≡ length (unwords ws)
  at_end = upto_line (unwords ws) r (unbroken_line ws p.words)

  has_line : has 10 (line ws r) ≡ true
  has_line = lt-ltb _ _ (omega (arith, at_end, length-append (unwords ws) (10 ∷ r)))

  -- the first line of a text, and the text after it
  pub line_forth : (n : ℕ) → text_line (line ws r) n ≡ Ok (unwords ws)
  unfolding text_line
  line_forth n =
      rw (ne_eqb (length (line ws r)) 0 (λ z. omega (arith, length-append (unwords ws) (10 ∷ r))), has_line)
      (ap Ok (take_at (unwords ws) (10 ∷ r) _ (sym at_end)))

  pub after_line : after 10 (line ws r) ≡ r
  after_line = ap (λ n. drop (n + 1) (line ws r)) at_end ∙ drop_past (unwords ws) r

unwords_length : (ws : List (List ℕ)) → AllByRecursion Word ws → length (unwords ws) ≤ 8 * length ws
unwords_length [] p = omega arith
unwords_length (w ∷ []) p = omega (arith, p.0.1)
unwords_length (w ∷ v ∷ ws) p = omega (arith, p.0.1, length-append w (32 ∷ unwords (v ∷ ws)), unwords_length (v ∷ ws) p.1)

pub line_length : (ws : List (List ℕ)) (r : List ℕ) → Words ws → length (line ws r) ≤ 25 + length r
line_length ws r p = omega (arith, length-append (unwords ws) (10 ∷ r), unwords_length ws p.words, p.few)
