-- The header: its text is that of what it says, and is read back as that.
use Rattle.std.proofs.Common.{◌≡◌, ℕ, zero, suc, ◌+◌, ◌*◌, ◌≤◌, List, [], ◌∷◌, ◌++◌, length, ℤ, IfSome, IfOk, Some, None, Ok, Err, codes, decimal, Option, Result, sym, refl, ap, ◌∙◌, arith}
use Rattle.std.specs.Fmt.{signed_decimal}
use Rattle.std.specs.List.{AllByRecursion}
use Rattle.std.proofs.lemmas.List.{append-nil, append_assoc}
use Rattle.std.proofs.lemmas.Result.{IfOk-weaker}
use Rattle.std.proofs.lemmas.Bool.{cond_both}
use Rattle.cards.specs.declared.lines.KindName.{KindName}
use Rattle.cards.specs.declared.lines.KindName.TheVariants as Kind
use Rattle.cards.specs.declared.lines.OrderName.{OrderName}
use Rattle.cards.specs.declared.lines.OrderName.TheVariants as Order
use Rattle.words.specs.declared.fault.WordFault.{WordFault}
use Rattle.words.specs.Cuts.{after}
use Rattle.words.specs.Tokens.{Seen, words, first_of, others, place}
use Rattle.words.specs.Reading.{is_word, same_word, exact, as_number, as_literal, no_word}
use Rattle.loading.specs.declared.refusal.LineFault.{LineFault}
use Rattle.loading.specs.Texts.{text_line}
use Rattle.loading.specs.Headers.{worded, kinds, orders, kind_name, order_name, Form, bench_form, kind_form, order_form, objects_form, lines_form, literal_form, formed, by_form, header_line, literals_after, Header, next_line, next_literals, read_header}
use Rattle.written.specs.Written.{line, kind_word, order_word, literal_lines, header_text}
use Rattle.written.specs.Formed.{Literal}
use Rattle.written.proofs.Numbers.{Backs, between_back, between_forth, literal_back, literal_forth}
use Rattle.written.proofs.Cuts.{Words, line_back, line_forth, after_line, words_forth, line_length}
use Rattle.written.proofs.Lines.{is_back, find_back, then_made, Reads, reads_by, none_back, number_word, literal_a_word, pair_of, single}

-- Back: the forms.

-- what f reads a line as has the words of that line
abbrev pub FormBack : {A : Type 0} → Form A → (A → List (List ℕ)) → (A → Type 0) → Type 0
FormBack f text fit = (ws : List (List ℕ)) (n : ℕ) → IfOk (f ws n) (λ x. (ws ≡ text x) × fit x)

exact_back : (v : List ℕ) → Backs (same_word v) (λ _. v) (λ _. Unit {0})
exact_back v w = cond_both (is_word w v) (Some tt) None (λ (o : Option (Unit {0})). IfSome o (λ _. (w ≡ v) × Unit {0})) (λ e. (is_back _ _ e, tt)) (λ e. tt)

worded_back : {A : Type 0} (v : List ℕ) (f : Seen → Result A WordFault) (text : A → List ℕ) (fit : A → Type 0) → Reads f text fit → FormBack (λ ws n. worded v f (first_of ws (place n 1)) (first_of (others ws) (place n 2)) (first_of (others (others ws)) (place n 3))) (λ x. v ∷ text x ∷ []) fit
worded_back v f text fit reads ws n =
    then_made _ _ (exact v (first_of ws (place n 1))) _ (reads_by _ _ _ (exact_back v) ws (place n 1)) (λ _ hv.
    then_made _ _ (f (first_of (others ws) (place n 2))) _ (reads (others ws) (place n 2)) (λ x hx.
    then_made _ _ (no_word (first_of (others (others ws)) (place n 3))) _ (none_back (others (others ws)) (place n 3)) (λ _ h0.
    (hv.0 ∙ ap (λ t. v ∷ t) (hx.0 ∙ ap (λ t. text x ∷ t) h0), hx.1))))

pub bench_back : FormBack bench_form (λ _. codes "bench" ∷ codes "2" ∷ []) (λ _. Unit {0})
unfolding bench_form
bench_back = worded_back (codes "bench") (exact (codes "2")) (λ _. codes "2") (λ _. Unit {0}) (reads_by _ _ _ (exact_back (codes "2")))

pub kind_back : FormBack kind_form (λ k. codes "kind" ∷ kind_word k ∷ []) (λ _. Unit {0})
unfolding kind_form
kind_back = worded_back (codes "kind") kind_name kind_word (λ _. Unit {0}) (reads_by _ _ _ (find_back kind_word kinds (refl, (refl, tt))))

pub order_back : FormBack order_form (λ o. codes "order" ∷ order_word o ∷ []) (λ _. Unit {0})
unfolding order_form
order_back = worded_back (codes "order") order_name order_word (λ _. Unit {0}) (reads_by _ _ _ (find_back order_word orders (refl, (refl, (refl, (refl, tt))))))

pub objects_back : FormBack objects_form (λ n. codes "objects" ∷ decimal n ∷ []) (λ n. (1 ≤ n) × (n ≤ 16))
unfolding objects_form
objects_back = worded_back (codes "objects") (as_number 1 16) decimal (λ n. (1 ≤ n) × (n ≤ 16)) (reads_by _ _ _ (between_back 1 16 (omega arith)))

pub lines_back : FormBack lines_form (λ n. codes "lines" ∷ decimal n ∷ []) (λ n. (0 ≤ n) × (n ≤ 256))
unfolding lines_form
lines_back = worded_back (codes "lines") (as_number 0 256) decimal (λ n. (0 ≤ n) × (n ≤ 256)) (reads_by _ _ _ (between_back 0 256 (omega arith)))

pub literal_line_back : FormBack literal_form (λ z. signed_decimal z ∷ []) Literal
unfolding literal_form
literal_line_back ws n =
    then_made _ _ (as_literal (first_of ws (place n 1))) _ (reads_by _ _ _ literal_back ws (place n 1)) (λ z hz.
    then_made _ _ (no_word (first_of (others ws) (place n 2))) _ (none_back (others ws) (place n 2)) (λ _ h0.
    (hz.0 ∙ ap (λ t. signed_decimal z ∷ t) h0, hz.1)))

-- Back: the lines.

module _ {A : Type 0} (f : Form A) (text : A → List (List ℕ)) (fit : A → Type 0) (backs : FormBack f text fit) where
  header_line_back : (s : List ℕ) (n : ℕ) → IfOk (header_line f s n) (λ p. (s ≡ line (text p.0) p.1) × fit p.0)
  header_line_back s n = go (text_line s n) (line_back s n)
    where
      said : (b : List ℕ) → s ≡ line (words b) (after 10 s) → (r : Result A WordFault) → IfOk r (λ x. (words b ≡ text x) × fit x) → IfOk (formed r s) (λ p. (s ≡ line (text p.0) p.1) × fit p.0)
      said b e (Ok x) h = (e ∙ ap (λ ws. line ws (after 10 s)) h.0, h.1)
      said b e (Err y) h = tt

      go : (r : Result (List ℕ) LineFault) → IfOk r (λ b. s ≡ line (words b) (after 10 s)) → IfOk (by_form f r s n) (λ p. (s ≡ line (text p.0) p.1) × fit p.0)
      go (Ok b) e = said b e (f (words b) n) (backs (words b) n)
      go (Err y) e = tt

  next_back : {B : Type 0} (Q : B → Type 0) (s : List ℕ) (n : ℕ) (k : A → List ℕ → Result B LineFault) → ((x : A) (t : List ℕ) → s ≡ line (text x) t → fit x → IfOk (k x t) Q) → IfOk (next_line f s n k) Q
  unfolding next_line
  next_back Q s n k g = then_made _ Q (header_line f s n) _ (header_line_back s n) (λ p h. g p.0 p.1 h.0 h.1)

-- literals us, of which those after vs are read
record Literals (vs : List ℤ) (m : ℕ) (s : List ℕ) (us : List ℤ) (t : List ℕ) : Type 0 where
  some : List ℤ
  after : us ≡ vs ++ some
  text : s ≡ literal_lines some t
  count : length some ≡ m
  fit : AllByRecursion Literal some

literals_back : (m : ℕ) (vs : List ℤ) (s : List ℕ) (n : ℕ) → IfOk (literals_after m vs s n) (λ p. Literals vs m s p.0 p.1)
unfolding literals_after literal_lines
literals_back zero vs s n = record { some = []; after = sym (append-nil vs); text = refl; count = refl; fit = tt }
literals_back (suc m) vs s n =
    then_made _ _ (header_line literal_form s n) _ (header_line_back literal_form _ _ literal_line_back s n) (λ p h.
    IfOk-weaker (literals_after m (vs ++ p.0 ∷ []) p.1 (suc n)) _ _ (λ q r. record {
      some = p.0 ∷ r.some;
      after = r.after ∙ append_assoc vs (p.0 ∷ []) r.some;
      text = h.0 ∙ ap (line (signed_decimal p.0 ∷ [])) r.text;
      count = ap suc r.count;
      fit = (h.1, r.fit);
    }) (literals_back m (vs ++ p.0 ∷ []) p.1 (suc n)))

next_literals_back : {B : Type 0} (Q : B → Type 0) (m : ℕ) (s : List ℕ) (n : ℕ) (k : List ℤ → List ℕ → Result B LineFault) → ((us : List ℤ) (t : List ℕ) → s ≡ literal_lines us t → length us ≡ m → AllByRecursion Literal us → IfOk (k us t) Q) → IfOk (next_literals m s n k) Q
unfolding next_literals
next_literals_back Q m s n k g = then_made _ Q (literals_after m [] s n) _ (literals_back m [] s n) (λ p h. rw h.after (g h.some p.1 h.text h.count h.fit))

-- the text s is the header h and then t
pub record HeaderBack (s : List ℕ) (h : Header) (t : List ℕ) : Type 0 where
  pub text : s ≡ header_text h.kind h.order h.words h.lines t
  pub an_object : 1 ≤ length h.words
  pub objects : length h.words ≤ 16
  pub lines : h.lines ≤ 256
  pub literals : AllByRecursion Literal h.words

pub header_back : (s : List ℕ) → IfOk (read_header s) (λ p. HeaderBack s p.0 p.1)
unfolding read_header
header_back s =
    next_back bench_form _ _ bench_back _ s 1 _ λ _ s₁ e₁ _.
    next_back kind_form _ _ kind_back _ s₁ 2 _ λ kind s₂ e₂ _.
    next_back order_form _ _ order_back _ s₂ 3 _ λ order s₃ e₃ _.
    next_back objects_form _ _ objects_back _ s₃ 4 _ λ count s₄ e₄ few.
    next_literals_back _ count s₄ 5 _ λ words s₅ e₅ all fit.
    next_back lines_form _ _ lines_back _ s₅ (5 + count) _ λ lines s₆ e₆ small.
    record {
      text = e₁ ∙ ap (line (codes "bench" ∷ codes "2" ∷ [])) (e₂ ∙ ap (line (codes "kind" ∷ kind_word kind ∷ [])) (e₃ ∙ ap (line (codes "order" ∷ order_word order ∷ [])) (e₄ ∙ ap (λ n. line (codes "objects" ∷ decimal n ∷ []) s₄) (sym all) ∙ ap (line (codes "objects" ∷ decimal (length words) ∷ [])) (e₅ ∙ ap (literal_lines words) e₆))));
      an_object = omega (arith, all, few.0);
      objects = omega (arith, all, few.1);
      lines = small.1;
      literals = fit;
    }

-- Forth.

module _ {A : Type 0} (f : Form A) (ws : List (List ℕ)) (w : Words ws) (x : A) (n : ℕ) (says : f ws n ≡ Ok x) (t : List ℕ) where
  header_line_forth : header_line f (line ws t) n ≡ Ok (x, t)
  header_line_forth = rw (line_forth ws t w n, words_forth ws w, says, after_line ws t w)

  next_forth : {B : Type 0} (k : A → List ℕ → Result B LineFault) → next_line f (line ws t) n k ≡ k x t
  unfolding next_line
  next_forth k = rw header_line_forth

pub literal_says : (z : ℤ) (n : ℕ) → Literal z → literal_form (signed_decimal z ∷ []) n ≡ Ok z
unfolding literal_form
literal_says z n h = rw (literal_forth z h)

literals_forth : (us vs : List ℤ) (t : List ℕ) (n : ℕ) → AllByRecursion Literal us → literals_after (length us) vs (literal_lines us t) n ≡ Ok (vs ++ us, t)
unfolding literals_after literal_lines
literals_forth [] vs t n h = rw append-nil
literals_forth (z ∷ us) vs t n h =
    rw (header_line_forth literal_form (signed_decimal z ∷ []) (single _ (literal_a_word z h.0)) z n (literal_says z n h.0) (literal_lines us t))
    (literals_forth us (vs ++ z ∷ []) t (suc n) h.1 ∙ ap (λ ws. Ok (ws, t)) (append_assoc vs (z ∷ []) us))

next_literals_forth : {B : Type 0} (us : List ℤ) (t : List ℕ) (n : ℕ) → AllByRecursion Literal us → (k : List ℤ → List ℕ → Result B LineFault) → next_literals (length us) (literal_lines us t) n k ≡ k us t
unfolding next_literals
next_literals_forth us t n h k = rw (literals_forth us [] t n h)

pub kind_says : (k : KindName) → kind_form (codes "kind" ∷ kind_word k ∷ []) 2 ≡ Ok k
unfolding kind_form is_word
kind_says Kind.Tally = refl
kind_says Kind.Flags = refl

pub order_says : (o : OrderName) → order_form (codes "order" ∷ order_word o ∷ []) 3 ≡ Ok o
unfolding order_form is_word
order_says Order.First = refl
order_says Order.Last = refl
order_says Order.Turns = refl
order_says Order.Narrow = refl

pub objects_says : (n : ℕ) → (1 ≤ n) × (n ≤ 16) → objects_form (codes "objects" ∷ decimal n ∷ []) 4 ≡ Ok n
unfolding objects_form is_word
objects_says n h = rw (between_forth 1 16 (omega arith) n h)

pub lines_says : (m n : ℕ) → (0 ≤ m) × (m ≤ 256) → lines_form (codes "lines" ∷ decimal m ∷ []) n ≡ Ok m
unfolding lines_form is_word
lines_says m n h = rw (between_forth 0 256 (omega arith) m h)

pub bench_says : bench_form (codes "bench" ∷ codes "2" ∷ []) 1 ≡ Ok tt
unfolding bench_form is_word
bench_says = refl

pub kind_words : (k : KindName) → Words (codes "kind" ∷ kind_word k ∷ [])
kind_words Kind.Tally = pair_of _ _ (refl, omega arith) (refl, omega arith)
kind_words Kind.Flags = pair_of _ _ (refl, omega arith) (refl, omega arith)

pub order_words : (o : OrderName) → Words (codes "order" ∷ order_word o ∷ [])
order_words Order.First = pair_of _ _ (refl, omega arith) (refl, omega arith)
order_words Order.Last = pair_of _ _ (refl, omega arith) (refl, omega arith)
order_words Order.Turns = pair_of _ _ (refl, omega arith) (refl, omega arith)
order_words Order.Narrow = pair_of _ _ (refl, omega arith) (refl, omega arith)

pub bench_words : Words (codes "bench" ∷ codes "2" ∷ [])
bench_words = pair_of _ _ (refl, omega arith) (refl, omega arith)

pub objects_words : (n : ℕ) → n ≤ 16 → Words (codes "objects" ∷ decimal n ∷ [])
objects_words n h = pair_of _ _ (refl, omega arith) (number_word n (omega arith))

pub lines_words : (m : ℕ) → m ≤ 256 → Words (codes "lines" ∷ decimal m ∷ [])
lines_words m h = pair_of _ _ (refl, omega arith) (number_word m (omega arith))

module _ (h : Header) (t : List ℕ) (an_object : 1 ≤ length h.words) (objects : length h.words ≤ 16) (lines : h.lines ≤ 256) (literals : AllByRecursion Literal h.words) where
  pub header_forth : read_header (header_text h.kind h.order h.words h.lines t) ≡ Ok (h, t)
  unfolding read_header
  header_forth =
      next_forth bench_form _ bench_words tt 1 bench_says _ _
      ∙ next_forth kind_form _ (kind_words h.kind) h.kind 2 (kind_says h.kind) _ _
      ∙ next_forth order_form _ (order_words h.order) h.order 3 (order_says h.order) _ _
      ∙ next_forth objects_form _ (objects_words _ objects) (length h.words) 4 (objects_says (length h.words) (an_object, objects)) _ _
      ∙ next_literals_forth h.words _ 5 literals _
      ∙ next_forth lines_form _ (lines_words _ lines) h.lines (5 + length h.words) (lines_says h.lines (5 + length h.words) (omega arith, lines)) t _

  literals_length : (us : List ℤ) (r : List ℕ) → AllByRecursion Literal us → length (literal_lines us r) ≤ 25 * length us + length r
  unfolding literal_lines
  literals_length [] r f = omega arith
  literals_length (z ∷ us) r f = omega (arith, line_length (signed_decimal z ∷ []) (literal_lines us r) (single _ (literal_a_word z f.0)), literals_length us r f.1)

  pub header_length : length (header_text h.kind h.order h.words h.lines t) ≤ 25 * (5 + length h.words) + length t
  header_length =
      let s₅ = line (codes "lines" ∷ decimal h.lines ∷ []) t in
      let s₄ = literal_lines h.words s₅ in
      let s₃ = line (codes "objects" ∷ decimal (length h.words) ∷ []) s₄ in
      let s₂ = line (codes "order" ∷ order_word h.order ∷ []) s₃ in
      let s₁ = line (codes "kind" ∷ kind_word h.kind ∷ []) s₂ in
      omega (
        arith,
        line_length _ s₁ bench_words,
        line_length _ s₂ (kind_words h.kind),
        line_length _ s₃ (order_words h.order),
        line_length _ s₄ (objects_words _ objects),
        literals_length h.words s₅ literals,
        line_length _ t (lines_words _ lines),
      )
