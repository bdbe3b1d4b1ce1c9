-- Numbers and literals: read from their decimal text alone, and read back from it.
use Rattle.std.proofs.Common.{◌≡◌, ℕ, zero, suc, ◌+◌, ◌-◌, ◌*◌, ◌^◌, ◌<◌, ◌≤◌, Bool, true, false, cond, ◌&&◌, eqb, leb, List, [], ◌∷◌, length, get_or, ℤ, pos, negsuc, IfSome, Some, None, decimal, Option, sym, refl, ap, ◌∙◌, ⊎_elim, arith, rules}
use Rattle.std.specs.Char.{is_ascii_digit}
use Rattle.std.specs.Fmt.{signed_decimal}
use Rattle.std.specs.Str.{all_ascii_digits}
use Rattle.std.proofs.lemmas.Str.Parse.{IsNumeralModel, numerals_by_fold}
use Rattle.std.proofs.lemmas.Fmt.{decimal-digits_value, decimal_digit, digits_decimal, digits_value-decimal, decimal_nonempty, first_decimal}
use Rattle.std.proofs.lemmas.Bool.{and_parts, and_from, leb-true, le-leb, eqb-true, eqb-false, ne_eqb, cases_eq}
use Rattle.words.specs.Numbers.{reads, number, literal, not_below, negated, mapped}
use Rattle.written.specs.Formed.{Literal}

-- each word that f reads as x is the text of x, which fits
abbrev pub Backs : {A : Type 0} → (List ℕ → Option A) → (A → List ℕ) → (A → Type 0) → Type 0
Backs f text fit = (w : List ℕ) → IfSome (f w) (λ x. (w ≡ text x) × fit x)

-- the text of each x that fits is read as x
abbrev pub Forth : {A : Type 0} → (List ℕ → Option A) → (A → List ℕ) → (A → Type 0) → Type 0
Forth {A} f text fit = (x : A) → fit x → f (text x) ≡ Some x

abbrev read_on : ℕ → List ℕ → ℕ
read_on n [] = n
read_on n (c ∷ cs) = read_on (10 * n + (c - 48)) cs

own : IsNumeralModel (λ ds. all_ascii_digits ds ≡ true) (read_on 0)
own = numerals_by_fold _ (search rules) read_on (search rules)

pub all_digits : (n : ℕ) → n < 2 ^ 64 → all_ascii_digits (decimal n) ≡ true
all_digits n h = digits_decimal own n h

-- Back.

abbrev ReadsBack : ℕ → ℕ → List ℕ → Option ℕ → Type 0
ReadsBack max n s o = IfSome o (λ m. (all_ascii_digits s ≡ true) × (read_on n s ≡ m) × (m ≤ max))

reads_back : (max n : ℕ) (s : List ℕ) → n ≤ max → ReadsBack max n s (reads max n s)
unfolding reads
reads_back max n [] h = (refl, refl, h)
reads_back max n (b ∷ bs) h = go (leb 48 b && leb b 57 && leb (10 * n + (b - 48)) max) refl (reads_back max (10 * n + (b - 48)) bs)
  where
    widen : all_ascii_digits (b ∷ bs) ≡ all_ascii_digits bs → (o : Option ℕ) → ReadsBack max (10 * n + (b - 48)) bs o → ReadsBack max n (b ∷ bs) o
    widen e None r = tt
    widen e (Some m) r = (e ∙ r.0, r.1, r.2)

    go : (t : Bool) → (leb 48 b && leb b 57 && leb (10 * n + (b - 48)) max) ≡ t → (10 * n + (b - 48) ≤ max → ReadsBack max (10 * n + (b - 48)) bs (reads max (10 * n + (b - 48)) bs)) → ReadsBack max n (b ∷ bs) (cond t (reads max (10 * n + (b - 48)) bs) None)
    go false e ih = tt
    go true e ih =
        let p = and_parts (leb 48 b && leb b 57) (leb (10 * n + (b - 48)) max) e in
        widen (ap (λ t. t && all_ascii_digits bs) p.0) (reads max (10 * n + (b - 48)) bs) (ih (leb-true _ _ p.1))

abbrev NumberBack : ℕ → List ℕ → Option ℕ → Type 0
NumberBack max s o = IfSome o (λ n. (s ≡ decimal n) × (n ≤ max))

plain : (max : ℕ) (s : List ℕ) → max < 2 ^ 64 → 0 < length s → (get_or s 0 0 ≡ 48 → length s ≡ 1) → (o : Option ℕ) → ReadsBack max 0 s o → NumberBack max s o
plain max s small some first None r = tt
plain max s small some first (Some n) r = (sym (decimal-digits_value own s r.0 some first (omega (arith, r.1, r.2))) ∙ ap decimal r.1, r.2)

pub number_back : (max : ℕ) → max < 2 ^ 64 → Backs (number max) decimal (λ n. n ≤ max)
unfolding number
number_back max small [] = tt
number_back max small (b ∷ []) = plain max _ small (omega arith) (λ _. refl) _ (reads_back max 0 _ (omega arith))
number_back max small (b ∷ c ∷ bs) = go (eqb b 48) refl
  where
    go : (t : Bool) → eqb b 48 ≡ t → NumberBack max (b ∷ c ∷ bs) (cond t None (reads max 0 (b ∷ c ∷ bs)))
    go true e = tt
    go false e = plain max _ small (omega arith) (λ z. absurd (eqb-false _ _ e z)) _ (reads_back max 0 _ (omega arith))

abbrev Between : ℕ → ℕ → ℕ → Type 0
Between min max n = (min ≤ n) × (n ≤ max)

pub between_back : (min max : ℕ) → max < 2 ^ 64 → Backs (λ w. not_below min (number max w)) decimal (λ n. (min ≤ n) × (n ≤ max))
between_back min max small w = go (number max w) (number_back max small w)
  where
    tested : (n : ℕ) → (w ≡ decimal n) × (n ≤ max) → (t : Bool) → leb min n ≡ t → IfSome (cond t (Some n) None) (λ x. (w ≡ decimal x) × Between min max x)
    tested n h true e = (h.0, (leb-true min n e, h.1))
    tested n h false e = tt

    go : (o : Option ℕ) → NumberBack max w o → IfSome (not_below min o) (λ x. (w ≡ decimal x) × Between min max x)
    go None h = tt
    go (Some n) h = tested n h (leb min n) refl

abbrev LiteralBack : List ℕ → Option ℤ → Type 0
LiteralBack s o = IfSome o (λ v. (s ≡ signed_decimal v) × Literal v)

positive : (s : List ℕ) (o : Option ℕ) → NumberBack 32767 s o → LiteralBack s (mapped pos o)
positive s None r = tt
positive s (Some n) r = r

negative : (s : List ℕ) (o : Option ℕ) → NumberBack 32768 s o → LiteralBack (45 ∷ s) (negated o)
negative s None r = tt
negative s (Some zero) r = tt
negative s (Some (suc n)) r = rw (ne_eqb (suc n) 0 (λ z. omega arith)) (ap (λ t. 45 ∷ t) r.0, omega (arith, r.1))

pub literal_back : Backs literal signed_decimal Literal
unfolding number
literal_back [] = tt
literal_back (b ∷ bs) = go (eqb b 45) refl
  where
    go : (t : Bool) → eqb b 45 ≡ t → LiteralBack (b ∷ bs) (cond t (negated (number 32768 bs)) (mapped pos (number 32767 (b ∷ bs))))
    go true e = rw (eqb-true _ _ e) (negative bs (number 32768 bs) (number_back 32768 (omega arith) bs))
    go false e = positive (b ∷ bs) (number 32767 (b ∷ bs)) (number_back 32767 (omega arith) (b ∷ bs))

-- Forth.

read_on_le : (n : ℕ) (s : List ℕ) → n ≤ read_on n s
read_on_le n [] = omega arith
read_on_le n (b ∷ bs) = omega (arith, read_on_le (10 * n + (b - 48)) bs)

reads_forth : (max n : ℕ) (s : List ℕ) → all_ascii_digits s ≡ true → read_on n s ≤ max → reads max n s ≡ Some (read_on n s)
unfolding reads
reads_forth max n [] d h = refl
reads_forth max n (b ∷ bs) d h =
    let p = and_parts (is_ascii_digit b) (all_ascii_digits bs) d in
    let test : (leb 48 b && leb b 57 && leb (10 * n + (b - 48)) max) ≡ true = and_from _ _ p.0 (le-leb _ _ (omega (arith, read_on_le (10 * n + (b - 48)) bs))) in
    rw test (reads_forth max (10 * n + (b - 48)) bs p.1 h)

plain_forth : (max : ℕ) (s : List ℕ) → 0 < length s → all_ascii_digits s ≡ true → read_on 0 s ≤ max → (1 < length s → get_or s 0 0 ≡ 48 → ⊥) → number max s ≡ Some (read_on 0 s)
unfolding number
plain_forth max [] some d h z = absurd (omega arith)
plain_forth max (b ∷ []) some d h z = reads_forth max 0 (b ∷ []) d h
plain_forth max (b ∷ c ∷ bs) some d h z = rw (ne_eqb b 48 (z (omega arith))) (reads_forth max 0 (b ∷ c ∷ bs) d h)

pub number_forth : (max : ℕ) → max < 2 ^ 64 → Forth (number max) decimal (λ n. n ≤ max)
number_forth max small n h =
    let fits : n < 2 ^ 64 = omega arith in
    let v = digits_value-decimal own n fits in
    plain_forth max (decimal n) (decimal_nonempty n fits) (all_digits n fits) (omega (arith, v)) (λ long e. ⊎_elim (λ zero_n. absurd (omega (arith, ap (λ m. length (decimal m)) zero_n, ap length (decimal_digit 0 (omega arith))))) (λ ne. omega (arith, first_decimal n (omega arith) fits)) (cases_eq n 0)) ∙ ap Some v

pub between_forth : (min max : ℕ) → max < 2 ^ 64 → Forth (λ w. not_below min (number max w)) decimal (λ n. (min ≤ n) × (n ≤ max))
between_forth min max small n h = ap (not_below min) (number_forth max small n h.1) ∙ rw (le-leb min n h.0)

first_digit : (s : List ℕ) → 0 < length s → all_ascii_digits s ≡ true → 48 ≤ get_or s 0 0
first_digit [] some d = absurd (omega arith)
first_digit (b ∷ bs) some d = leb-true 48 b (and_parts (leb 48 b) (leb b 57) (and_parts (is_ascii_digit b) (all_ascii_digits bs) d).0).0

pub literal_forth : Forth literal signed_decimal Literal
literal_forth (pos n) h =
    let fits : n < 2 ^ 64 = omega arith in
    let low = first_digit (decimal n) (decimal_nonempty n fits) (all_digits n fits) in
    rw (ne_eqb (get_or (decimal n) 0 0) 45 (λ e. omega arith)) (ap (mapped pos) (number_forth 32767 (omega arith) n h))
literal_forth (negsuc n) h = ap negated (number_forth 32768 (omega arith) (suc n) (omega arith)) ∙ rw (ne_eqb (suc n) 0 (λ e. omega arith))
