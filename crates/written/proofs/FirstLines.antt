-- A text's fault is its first: what stands through its place decides it, and what stands before begins a text that gets further.
use Rattle.std.proofs.Common.{◌≡◌, ℕ, suc, ◌+◌, ◌<◌, ◌≤◌, Bool, true, false, cond, eqb, ◌⊎◌, List, [], length, take, IfOk, Ok, Err, Result, sym, refl, ap, ◌∙◌, subst, inl, inr, arith}
use Rattle.std.proofs.lemmas.Result.{IfOk-at_ok}
use Rattle.words.specs.declared.fault.WordFault.{WordFault}
use Rattle.words.specs.Cuts.{has, before, after}
use Rattle.words.specs.Tokens.{words}
use Rattle.loading.specs.declared.refusal.LineFault.{LineFault}
use Rattle.loading.specs.declared.refusal.LineFault.TheVariants as F
use Rattle.loading.specs.Refusals.{place_of}
use Rattle.loading.specs.Texts.{text_line}
use Rattle.loading.specs.Headers.{Form}
use Rattle.written.specs.Written.{unwords, line}
use Rattle.written.specs.First.{line_of, word_of, SameLine, SameStart, SameWords, AfterLines, Through, UpTo, Later, AtEnd}
use Rattle.written.proofs.Cuts.{Words, words_back, line_forth, after_line, words_forth, line_length}
use Rattle.written.proofs.FirstWords.{ToldFirst}

-- Lines.

-- a line that there is does not hang on its number
numbered : (s b : List ℕ) (n : ℕ) → text_line s n ≡ Ok b → (m : ℕ) → text_line s m ≡ Ok b
unfolding text_line
numbered s b n e m = go (eqb (length s) 0) (has 10 s) e
  where
    go : (t u : Bool) → cond t (Err (F.Missing n)) (cond u (Ok (before 10 s)) (Err (F.Unended n))) ≡ Ok b → cond t (Err (F.Missing m)) (cond u (Ok (before 10 s)) (Err (F.Unended m))) ≡ Ok b
    go true u h = cc
    go false true h = cc
    go false false h = cc

-- the fault of a line that there is not
record NoLine (n : ℕ) (y : LineFault) : Type 0 where
  line : line_of y ≡ n
  word : word_of y ≡ 0

no_line : (s : List ℕ) (n : ℕ) (y : LineFault) → text_line s n ≡ Err y → NoLine n y
unfolding text_line
no_line s n y e = go (eqb (length s) 0) (has 10 s) e
  where
    go : (t u : Bool) → cond t (Err (F.Missing n)) (cond u (Ok (before 10 s)) (Err (F.Unended n))) ≡ Err y → NoLine n y
    go true u h = let is : y ≡ F.Missing n = cc in rw is (record { line = refl; word = refl })
    go false true h = cc
    go false false h = let is : y ≡ F.Unended n = cc in rw is (record { line = refl; word = refl })

-- Readers from line n on.

-- r passes e
abbrev pub GetsBy : {B : Type 0} → LineFault → Result B LineFault → Type 0
GetsBy e (Ok x) = Unit {0}
GetsBy e (Err f) = Later (line_of e) (word_of e) (line_of f) (word_of f)

-- r ends before the line of e, or is at fault there as a whole
abbrev pub Ends : {B : Type 0} → LineFault → Result B LineFault → Type 0
Ends e (Ok x) = Unit {0}
Ends e (Err f) = AtEnd f × (line_of f ≡ line_of e)

-- no line may stand after the first n
abbrev pub Closed : {B : Type 0} → (List ℕ → Result B LineFault) → ℕ → List ℕ → LineFault → Type 0
Closed read n s e = AtEnd e × ((t : List ℕ) → AfterLines n (λ _ _. Unit {0}) s t → Ends e (read t))

-- another text of at most size bytes gets further
pub record Other {B : Type 0} (read : List ℕ → Result B LineFault) (size before : ℕ) (s : List ℕ) (e : LineFault) : Type 0 where
  pub text : List ℕ
  pub short : length text ≤ size
  pub same : AfterLines before (UpTo (word_of e)) s text
  pub passes : GetsBy e (read text)

pub record First {B : Type 0} (read : List ℕ → Result B LineFault) (n size : ℕ) (s : List ℕ) (e : LineFault) : Type 0 where
  pub before : ℕ
  pub line : line_of e ≡ n + before
  pub decided : (t : List ℕ) → AfterLines before (Through (word_of e)) s t → read t ≡ Err e
  pub here : Other read size before s e ⊎ Closed read before s e

abbrev pub Firsts : {B : Type 0} → (List ℕ → Result B LineFault) → ℕ → ℕ → Type 0
Firsts read n size = (s : List ℕ) (e : LineFault) → read s ≡ Err e → First read n size s e

-- a line by a form, and then by k what follows it
module _ {A B : Type 0} (n : ℕ) (f : Form A) (k : A → List ℕ → Result B LineFault) where
  abbrev pub said : Result A WordFault → List ℕ → Result B LineFault
  said (Ok x) s = k x s
  said (Err y) s = Err (F.Word y)

  abbrev pub by_line : Result (List ℕ) LineFault → List ℕ → Result B LineFault
  by_line (Ok b) s = said (f (words b) n) s
  by_line (Err y) s = Err y

  abbrev pub by_lines : List ℕ → Result B LineFault
  by_lines s = by_line (text_line s n) (after 10 s)

-- what k finds after line n is read as x: a fault of that line, or of a later one
abbrev pub Finds : {B : Type 0} → (List ℕ → Result B LineFault) → ℕ → ℕ → Type 0
Finds read n size = (s : List ℕ) (e : LineFault) → read s ≡ Err e → ((line_of e ≡ n) × (word_of e ≡ 0) × ((t : List ℕ) → read t ≡ Err e)) ⊎ First read (suc n) size s e

-- a line by a form that is told first, where what follows is found first and some good line is no offence
module _ {A B : Type 0} (n size : ℕ) (f : Form A) (text : A → List (List ℕ)) (fit : A → Type 0) (backs : (ws : List (List ℕ)) (m : ℕ) → IfOk (f ws m) (λ x. (ws ≡ text x) × fit x)) (has_words : (x : A) → fit x → Words (text x)) (told : ToldFirst n 0 (λ ws. f ws n)) (k : A → List ℕ → Result B LineFault) (finds : (x : A) → fit x → Finds (k x) n size) (good : A) (good_fits : fit good) (good_says : f (text good) n ≡ Ok good) (good_on : Firsts (k good) (suc n) size) where
  abbrev R : List ℕ → Result B LineFault
  R s = by_lines n f k s

  read_line : (x : A) → fit x → f (text x) n ≡ Ok x → (r : List ℕ) → R (line (text x) r) ≡ k x r
  read_line x fits says r = let w = has_words x fits in rw (line_forth (text x) r w n, words_forth (text x) w, says, after_line (text x) r w)

  short_line : (x : A) → fit x → length (line (text x) []) ≤ 25 + size
  short_line x fits = omega (arith, line_length (text x) [] (has_words x fits))

  -- a good line passes a fault of the whole line
  good_passes : (e : LineFault) → line_of e ≡ n → GetsBy e (R (line (text good) []))
  good_passes e at = subst (GetsBy e) (sym (read_line good good_fits good_says [])) (go (k good []) refl)
    where
      go : (r : Result B LineFault) → k good [] ≡ r → GetsBy e r
      go (Ok x) h = tt
      go (Err y) h = inl (omega (arith, (good_on [] y h).line))

  whole_line : (e : LineFault) (s : List ℕ) → line_of e ≡ n → word_of e ≡ 0 → Other R (25 + size) 0 s e
  unfolding AfterLines
  whole_line e s at none = record { text = line (text good) []; short = short_line good good_fits; same = subst (λ w. UpTo w s (line (text good) [])) (sym none) tt; passes = good_passes e at }

  -- a line that fits passes a fault of a word
  fine_passes : (x : A) → fit x → f (text x) n ≡ Ok x → (e : LineFault) → line_of e ≡ n → 0 < word_of e → GetsBy e (R (line (text x) []))
  fine_passes x fits says e at some = subst (GetsBy e) (sym (read_line x fits says [])) (go (k x []) refl)
    where
      found : (y : LineFault) → ((line_of y ≡ n) × (word_of y ≡ 0) × ((t : List ℕ) → k x t ≡ Err y)) ⊎ First (k x) (suc n) size [] y → Later (line_of e) (word_of e) (line_of y) (word_of y)
      found y (inl h) = inr (omega (arith, h.0), some, inl h.1)
      found y (inr h) = inl (omega (arith, h.line))

      go : (r : Result B LineFault) → k x [] ≡ r → GetsBy e r
      go (Ok v) h = tt
      go (Err y) h = found y (finds x fits [] y h)

  missing_first : (s : List ℕ) (y : LineFault) → text_line s n ≡ Err y → First R n (25 + size) s y
  unfolding AfterLines
  missing_first s y e =
      let none = no_line s n y e in
      record {
        before = 0;
        line = omega (arith, none.line);
        decided = λ t h. let same = subst (λ w. Through w s t) none.word h in ap (λ r. by_line n f k r (after 10 t)) (sym (same n) ∙ e);
        here = inl (whole_line y s none.line none.word);
      }

  module _ (s b : List ℕ) (is : text_line s n ≡ Ok b) where
    word_first : (y : WordFault) → f (words b) n ≡ Err y → First R n (25 + size) s (F.Word y)
    unfolding AfterLines
    word_first y e =
        let r = told.1 (words b) y e in
        let v = IfOk-at_ok (λ x. (r.words ≡ text x) × fit x) r.fine (backs r.words n) in
        let t = line (text r.value) [] in
        let w : (place_of y).word ≡ suc r.before = omega (arith, r.word) in
        record {
          before = 0;
          line = omega (arith, r.line);
          decided = λ u h. let same : SameWords (suc r.before) s u = subst (λ v. Through v s u) w h in decides r.before r.later u (text_line u n) refl (subst (λ q. SameStart (suc r.before) q (text_line u n)) is (same n));
          here = inl (record {
            text = t;
            short = short_line r.value v.1;
            same = subst (λ v. UpTo v s t) (sym w) (λ m. same r.before r.value v.1 (r.same ∙ ap (take r.before) v.0) m);
            passes = fine_passes r.value v.1 (ap (λ ws. f ws n) (sym v.0) ∙ r.fine) (F.Word y) r.line (omega (arith, r.word));
          });
        }
      where
        decides : (w : ℕ) → ((vs : List (List ℕ)) → take (suc w) (words b) ≡ take (suc w) vs → f vs n ≡ Err y) → (u : List ℕ) (q : Result (List ℕ) LineFault) → text_line u n ≡ q → SameStart (suc w) (Ok b) q → R u ≡ Err (F.Word y)
        decides w later u (Ok c) z h = rw (z, later (words c) h)
        decides w later u (Err x) z h = absurd h

        same : (w : ℕ) (x : A) → fit x → take w (words b) ≡ take w (text x) → (m : ℕ) → SameStart w (text_line s m) (text_line (line (text x) []) m)
        same w x fits h m = rw (numbered s b n is m, line_forth (text x) [] (has_words x fits) m, words_forth (text x) (has_words x fits)) h

    module _ (x : A) (says : f (words b) n ≡ Ok x) where
      fits : (words b ≡ text x) × fit x
      fits = IfOk-at_ok (λ v. (words b ≡ text v) × fit v) says (backs (words b) n)

      text_says : f (text x) n ≡ Ok x
      text_says = ap (λ ws. f ws n) (sym fits.0) ∙ says

      -- what a text with the same line is read as
      same_read : (t : List ℕ) → SameLine s t → R t ≡ k x (after 10 t)
      same_read t h = rw (sym (h n) ∙ is, says)

      same_text : (r : List ℕ) → SameLine s (line (text x) r)
      same_text r m = numbered s b n is m ∙ ap Ok (words_back b ∙ ap unwords fits.0) ∙ sym (line_forth (text x) r (has_words x fits.1) m)

      further : (i : ℕ) (e : LineFault) → Other (k x) size i (after 10 s) e ⊎ Closed (k x) i (after 10 s) e → Other R (25 + size) (suc i) s e ⊎ Closed R (suc i) s e
      unfolding AfterLines
      further i e (inr z) = inr (z.0, λ t h. subst (Ends e) (sym (same_read t h.0)) (z.1 (after 10 t) h.1))
      further i e (inl o) =
          let w = has_words x fits.1 in
          inl (record {
            text = line (text x) o.text;
            short = omega (arith, line_length (text x) o.text w, o.short);
            same = (same_text o.text, subst (λ r. AfterLines i (UpTo (word_of e)) (after 10 s) r) (sym (after_line (text x) o.text w)) o.same);
            passes = subst (GetsBy e) (sym (read_line x fits.1 text_says o.text)) o.passes;
          })

      next_first : (e : LineFault) → ((line_of e ≡ n) × (word_of e ≡ 0) × ((t : List ℕ) → k x t ≡ Err e)) ⊎ First (k x) (suc n) size (after 10 s) e → First R n (25 + size) s e
      unfolding AfterLines
      next_first e (inl h) = record { before = 0; line = omega (arith, h.0); decided = λ t z. let same : SameLine s t = subst (λ w. Through w s t) h.1 z in same_read t same ∙ h.2 (after 10 t); here = inl (whole_line e s h.0 h.1) }
      next_first e (inr r) = record { before = suc r.before; line = omega (arith, r.line); decided = λ t z. same_read t z.0 ∙ r.decided (after 10 t) z.1; here = further r.before e r.here }

  pub lines_first : Firsts R n (25 + size)
  lines_first s e h = by (text_line s n) refl h
    where
      said_first : (b : List ℕ) → text_line s n ≡ Ok b → (r : Result A WordFault) → f (words b) n ≡ r → said n f k r (after 10 s) ≡ Err e → First R n (25 + size) s e
      said_first b is (Ok x) says z = next_first s b is x says e (finds x (fits s b is x says).1 (after 10 s) e z)
      said_first b is (Err y) says z = let same : F.Word y ≡ e = cc in subst (First R n (25 + size) s) same (word_first s b is y says)

      by : (r : Result (List ℕ) LineFault) → text_line s n ≡ r → by_line n f k r (after 10 s) ≡ Err e → First R n (25 + size) s e
      by (Ok b) is z = said_first b is (f (words b) n) refl z
      by (Err y) is z = let same : y ≡ e = cc in subst (First R n (25 + size) s) same (missing_first s y is)

-- the same reader, and one with more room
pub first_along : {B : Type 0} (p q : List ℕ → Result B LineFault) → ((s : List ℕ) → p s ≡ q s) → (m n size room : ℕ) → m ≡ n → size ≤ room → Firsts q m size → Firsts p n room
first_along p q same m n size room at le first s e h =
    let r = first s e (sym (same s) ∙ h) in
    record { before = r.before; line = omega (arith, r.line); decided = λ t z. same t ∙ r.decided t z; here = go r.before r.here }
  where
    go : (i : ℕ) → Other q size i s e ⊎ Closed q i s e → Other p room i s e ⊎ Closed p i s e
    go i (inr z) = inr (z.0, λ t h. subst (Ends e) (sym (same t)) (z.1 t h))
    go i (inl o) = inl (record { text = o.text; short = omega (arith, o.short); same = o.same; passes = subst (GetsBy e) (sym (same o.text)) o.passes })
