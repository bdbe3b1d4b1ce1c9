-- One line: what it says is read from its words alone, and read back from them.
use Rattle.std.proofs.Common.{◌≡◌, ℕ, suc, ◌<◌, ◌≤◌, Bool, true, false, cond, eqb, leb, List, [], ◌∷◌, ℤ, pos, negsuc, IfSome, IfOk, Some, None, Ok, Err, codes, decimal, Option, Result, sym, refl, ap, ◌∙◌, arith}
use Rattle.std.specs.Char.{is_ascii_digit}
use Rattle.std.specs.Fmt.{signed_decimal}
use Rattle.std.specs.List.{AllByRecursion}
use Rattle.std.specs.Str.{all_ascii_digits}
use Rattle.std.proofs.lemmas.Fmt.{length-decimal-le}
use Rattle.std.proofs.lemmas.Slice.Eq.{bytes_eq-Decides}
use Rattle.std.proofs.lemmas.Result.{IfOk-weaker}
use Rattle.std.proofs.lemmas.Bool.{and_parts, and_from, eqb-true, leb-true, lt-ltb}
use Rattle.cards.specs.declared.lines.Access.{Access}
use Rattle.cards.specs.declared.lines.Access.TheVariants as A
use Rattle.cards.specs.declared.lines.Level.{Level}
use Rattle.cards.specs.declared.lines.Level.TheVariants as Lv
use Rattle.words.specs.declared.fault.WordFault.{WordFault}
use Rattle.words.specs.declared.tokens.Place.{Place}
use Rattle.words.specs.Numbers.{number}
use Rattle.words.specs.Names.{Named, local, pointer, object, named, name, as_local, as_pointer, as_object}
use Rattle.words.specs.Tokens.{Seen, first_of, others, place}
use Rattle.words.specs.Reading.{or_unfit, read_by, is_word, as_number, as_literal, local_word, pointer_word, object_word, no_word}
use Rattle.loading.specs.declared.line.Keyword.{Keyword}
use Rattle.loading.specs.declared.line.Keyword.TheVariants as K
use Rattle.loading.specs.declared.line.Verb.{Verb}
use Rattle.loading.specs.declared.line.Verb.TheVariants as V
use Rattle.loading.specs.Lines as Lines
use Rattle.loading.specs.Lines.{Line, then, find, verb, statements, keywords, declarations, or_else, pair, two, one, operands, line_said}
use Rattle.written.specs.Written.{local_name, pointer_name, object_name, keyword_word, declaration_word, line_words}
use Rattle.written.specs.Formed.{Literal, FitsLine}
use Rattle.written.proofs.Numbers.{Backs, Forth, number_back, number_forth, between_back, between_forth, literal_back, literal_forth, all_digits}
use Rattle.written.proofs.Cuts.{plain, Word, Words}

-- Names.

abbrev name_text : Named → List ℕ
name_text (local i) = local_name i
name_text (pointer p) = pointer_name p
name_text (object o) = object_name o

abbrev FitsName : Named → Type 0
FitsName (local i) = i ≤ 3
FitsName (pointer p) = p ≤ 3
FitsName (object o) = o ≤ 15

name_back : Backs name name_text FitsName
unfolding number
name_back [] = tt
name_back (b ∷ bs) = letter (eqb b 110) refl
  where
    spelt : (f : ℕ → Named) (c max : ℕ) → ((i : ℕ) → name_text (f i) ≡ c ∷ decimal i) → ((i : ℕ) → i ≤ max → FitsName (f i)) → b ≡ c → (o : Option ℕ) → IfSome o (λ i. (bs ≡ decimal i) × (i ≤ max)) → IfSome (named f o) (λ x. (b ∷ bs ≡ name_text x) × FitsName x)
    spelt f c max text fit e None r = tt
    spelt f c max text fit e (Some i) r = (ap (λ x. x ∷ bs) e ∙ ap (λ t. c ∷ t) r.0 ∙ sym (text i), fit i r.1)

    third_letter : (t : Bool) → eqb b 111 ≡ t → IfSome (cond t (named object (number 15 bs)) None) (λ x. (b ∷ bs ≡ name_text x) × FitsName x)
    third_letter true e = spelt object 111 15 (λ i. refl) (λ i h. h) (eqb-true _ _ e) (number 15 bs) (number_back 15 (omega arith) bs)
    third_letter false e = tt

    second_letter : (t : Bool) → eqb b 112 ≡ t → IfSome (cond t (named pointer (number 3 bs)) (cond (eqb b 111) (named object (number 15 bs)) None)) (λ x. (b ∷ bs ≡ name_text x) × FitsName x)
    second_letter true e = spelt pointer 112 3 (λ i. refl) (λ i h. h) (eqb-true _ _ e) (number 3 bs) (number_back 3 (omega arith) bs)
    second_letter false e = third_letter (eqb b 111) refl

    letter : (t : Bool) → eqb b 110 ≡ t → IfSome (cond t (named local (number 3 bs)) (cond (eqb b 112) (named pointer (number 3 bs)) (cond (eqb b 111) (named object (number 15 bs)) None))) (λ x. (b ∷ bs ≡ name_text x) × FitsName x)
    letter true e = spelt local 110 3 (λ i. refl) (λ i h. h) (eqb-true _ _ e) (number 3 bs) (number_back 3 (omega arith) bs)
    letter false e = second_letter (eqb b 112) refl

local_back : Backs (λ w. as_local (name w)) local_name (λ i. i ≤ 3)
local_back w = go (name w) (name_back w)
  where
    go : (o : Option Named) → IfSome o (λ x. (w ≡ name_text x) × FitsName x) → IfSome (as_local o) (λ i. (w ≡ local_name i) × (i ≤ 3))
    go None h = tt
    go (Some (local i)) h = h
    go (Some (pointer p)) h = tt
    go (Some (object o)) h = tt

pointer_back : Backs (λ w. as_pointer (name w)) pointer_name (λ p. p ≤ 3)
pointer_back w = go (name w) (name_back w)
  where
    go : (o : Option Named) → IfSome o (λ x. (w ≡ name_text x) × FitsName x) → IfSome (as_pointer o) (λ p. (w ≡ pointer_name p) × (p ≤ 3))
    go None h = tt
    go (Some (local i)) h = tt
    go (Some (pointer p)) h = h
    go (Some (object o)) h = tt

object_back : Backs (λ w. as_object (name w)) object_name (λ o. o ≤ 15)
object_back w = go (name w) (name_back w)
  where
    go : (o : Option Named) → IfSome o (λ x. (w ≡ name_text x) × FitsName x) → IfSome (as_object o) (λ i. (w ≡ object_name i) × (i ≤ 15))
    go None h = tt
    go (Some (local i)) h = tt
    go (Some (pointer p)) h = tt
    go (Some (object o)) h = h

local_forth : Forth (λ w. as_local (name w)) local_name (λ i. i ≤ 3)
local_forth i h = rw (number_forth 3 (omega arith) i h)

pointer_forth : Forth (λ w. as_pointer (name w)) pointer_name (λ p. p ≤ 3)
pointer_forth p h = rw (number_forth 3 (omega arith) p h)

object_forth : Forth (λ w. as_object (name w)) object_name (λ o. o ≤ 15)
object_forth o h = rw (number_forth 15 (omega arith) o h)

-- First words.

pub is_back : (v w : List ℕ) → is_word v w ≡ true → v ≡ w
unfolding is_word
is_back v w e = (bytes_eq-Decides v w).0 e

-- a table in which each value stands beside its text
pub find_back : {A : Type 0} (text : A → List ℕ) (es : List (List ℕ × A)) → AllByRecursion (λ e. e.0 ≡ text e.1) es → Backs (find es) text (λ _. Unit {0})
find_back text [] h w = tt
find_back text (e ∷ es) h w = go (is_word w e.0) refl (find_back text es h.1 w)
  where
    go : (t : Bool) → is_word w e.0 ≡ t → IfSome (find es w) (λ x. (w ≡ text x) × Unit {0}) → IfSome (cond t (Some e.1) (find es w)) (λ x. (w ≡ text x) × Unit {0})
    go true is later = (is_back _ _ is ∙ h.0, tt)
    go false is later = later

abbrev verb_text : Verb → List ℕ
verb_text V.Set = codes "set"
verb_text V.Add = codes "add"
verb_text V.Point = codes "point"
verb_text V.Alias = codes "alias"
verb_text V.Read = codes "read"
verb_text V.Write = codes "write"
verb_text V.Join = codes "join"
verb_text V.If = codes "if"
verb_text V.Repeat = codes "repeat"
verb_text (V.Declare a v) = declaration_word a v
verb_text (V.Bare k) = keyword_word k

verb_back : Backs verb verb_text (λ _. Unit {0})
unfolding verb
verb_back w =
    go (find statements w) (or_else (find keywords w) (find declarations w)) (find_back verb_text statements (refl, (refl, (refl, (refl, (refl, (refl, (refl, (refl, (refl, tt))))))))) w)
    (go (find keywords w) (find declarations w) (find_back verb_text keywords (refl, (refl, (refl, (refl, (refl, (refl, tt)))))) w) (find_back verb_text declarations (refl, (refl, (refl, (refl, (refl, (refl, (refl, (refl, (refl, tt))))))))) w))
  where
    go : (o p : Option Verb) → IfSome o (λ x. (w ≡ verb_text x) × Unit {0}) → IfSome p (λ x. (w ≡ verb_text x) × Unit {0}) → IfSome (or_else o p) (λ x. (w ≡ verb_text x) × Unit {0})
    go None p h k = k
    go (Some x) p h k = h

keyword_forth : (k : Keyword) → verb (keyword_word k) ≡ Some (V.Bare k)
unfolding verb is_word
keyword_forth K.Else = refl
keyword_forth K.Task = refl
keyword_forth K.Do = refl
keyword_forth K.With = refl
keyword_forth K.Cont = refl
keyword_forth K.End = refl

declaration_forth : (a : Access) (v : Level) → verb (declaration_word a v) ≡ Some (V.Declare a v)
unfolding verb is_word
declaration_forth A.Rd Lv.Immediate = refl
declaration_forth A.Wr Lv.Immediate = refl
declaration_forth A.Cm Lv.Immediate = refl
declaration_forth A.Rd Lv.Deferred = refl
declaration_forth A.Wr Lv.Deferred = refl
declaration_forth A.Cm Lv.Deferred = refl
declaration_forth A.Rd Lv.Absent = refl
declaration_forth A.Wr Lv.Absent = refl
declaration_forth A.Cm Lv.Absent = refl

-- Back.

-- what holds after one step and another
pub then_made : {A B E : Type 0} (P : A → Type 0) (Q : B → Type 0) (r : Result A E) (k : A → Result B E) → IfOk r P → ((x : A) → P x → IfOk (k x) Q) → IfOk (then r k) Q
then_made P Q (Ok x) k h g = g x h
then_made P Q (Err e) k h g = tt

-- what f reads the first word as has that word for its text
abbrev pub Reads : {A : Type 0} → (Seen → Result A WordFault) → (A → List ℕ) → (A → Type 0) → Type 0
Reads f text fit = (ws : List (List ℕ)) (p : Place) → IfOk (f (first_of ws p)) (λ x. (ws ≡ text x ∷ others ws) × fit x)

pub reads_by : {A : Type 0} (f : List ℕ → Option A) (text : A → List ℕ) (fit : A → Type 0) → Backs f text fit → Reads (read_by f) text fit
reads_by f text fit b [] p = tt
reads_by {A} f text fit b (w ∷ ws) p = go (f w) (b w)
  where
    go : (o : Option A) → IfSome o (λ x. (w ≡ text x) × fit x) → IfOk (or_unfit o p) (λ x. (w ∷ ws ≡ text x ∷ ws) × fit x)
    go None h = tt
    go (Some x) h = (ap (λ t. t ∷ ws) h.0, h.1)

pub none_back : (ws : List (List ℕ)) (p : Place) → IfOk (no_word (first_of ws p)) (λ _. ws ≡ [])
none_back [] p = refl
none_back (w ∷ ws) p = tt

-- the line that its verb v and the words after it say
abbrev SaidBy : List ℕ → List (List ℕ) → Line → Type 0
SaidBy v ws x = (v ∷ ws ≡ line_words x) × FitsLine x

two_back : {A B : Type 0} (f : Seen → Result A WordFault) (g : Seen → Result B WordFault) (make : A → B → Line) (text : A → List ℕ) (text' : B → List ℕ) (fit : A → Type 0) (fit' : B → Type 0) (v : List ℕ) → Reads f text fit → Reads g text' fit' → ((a : A) (b : B) → fit a → fit' b → SaidBy v (text a ∷ text' b ∷ []) (make a b)) → (ws : List (List ℕ)) (p q r : Place) → IfOk (two f g make (first_of ws p) (first_of (others ws) q) (first_of (others (others ws)) r)) (SaidBy v ws)
two_back f g make text text' fit fit' v reads reads' says ws p q r =
    then_made (λ ab. (ws ≡ text ab.0 ∷ text' ab.1 ∷ []) × fit ab.0 × fit' ab.1) _ (pair f g (first_of ws p) (first_of (others ws) q) (first_of (others (others ws)) r)) _
    (then_made _ _ (f (first_of ws p)) _ (reads ws p) (λ a ha.
    then_made _ _ (g (first_of (others ws) q)) _ (reads' (others ws) q) (λ b hb.
    then_made _ _ (no_word (first_of (others (others ws)) r)) _ (none_back (others (others ws)) r) (λ _ h0.
    (ha.0 ∙ ap (λ t. text a ∷ t) (hb.0 ∙ ap (λ t. text' b ∷ t) h0), ha.1, hb.1)))))
    (λ ab h. let s = says ab.0 ab.1 h.1 h.2 in (ap (λ t. v ∷ t) h.0 ∙ s.0, s.1))

one_back : {A : Type 0} (f : Seen → Result A WordFault) (make : A → Line) (text : A → List ℕ) (fit : A → Type 0) (v : List ℕ) → Reads f text fit → ((a : A) → fit a → SaidBy v (text a ∷ []) (make a)) → (ws : List (List ℕ)) (p q r : Place) → IfOk (one f make (first_of ws p) (first_of (others ws) q) (first_of (others (others ws)) r)) (SaidBy v ws)
one_back f make text fit v reads says ws p q r =
    then_made _ _ (f (first_of ws p)) _ (reads ws p) (λ a ha.
    then_made _ _ (no_word (first_of (others ws) q)) _ (none_back (others ws) q) (λ _ h0.
    let s = says a ha.1 in (ap (λ t. v ∷ t) (ha.0 ∙ ap (λ t. text a ∷ t) h0) ∙ s.0, s.1)))

a_local : Reads local_word local_name (λ i. i ≤ 3)
a_local = reads_by _ _ _ local_back

a_pointer : Reads pointer_word pointer_name (λ p. p ≤ 3)
a_pointer = reads_by _ _ _ pointer_back

operands_back : (v : Verb) (ws : List (List ℕ)) (p q r : Place) → IfOk (operands v (first_of ws p) (first_of (others ws) q) (first_of (others (others ws)) r)) (SaidBy (verb_text v) ws)
operands_back V.Set ws p q r = two_back local_word as_literal Lines.set _ _ _ _ _ a_local (reads_by _ _ _ literal_back) (λ a b h k. (refl, (h, k))) ws p q r
operands_back V.Add ws p q r = two_back local_word local_word Lines.add _ _ _ _ _ a_local a_local (λ a b h k. (refl, (h, k))) ws p q r
operands_back V.Point ws p q r = two_back pointer_word object_word Lines.point _ _ _ _ _ a_pointer (reads_by _ _ _ object_back) (λ a b h k. (refl, (h, k))) ws p q r
operands_back V.Alias ws p q r = two_back pointer_word pointer_word Lines.alias _ _ _ _ _ a_pointer a_pointer (λ a b h k. (refl, (h, k))) ws p q r
operands_back V.Read ws p q r = two_back local_word pointer_word Lines.read _ _ _ _ _ a_local a_pointer (λ a b h k. (refl, (h, k))) ws p q r
operands_back V.Write ws p q r = two_back pointer_word local_word Lines.write _ _ _ _ _ a_pointer a_local (λ a b h k. (refl, (h, k))) ws p q r
operands_back V.Join ws p q r = two_back pointer_word local_word Lines.join _ _ _ _ _ a_pointer a_local (λ a b h k. (refl, (h, k))) ws p q r
operands_back V.If ws p q r = two_back local_word local_word Lines.if _ _ _ _ _ a_local a_local (λ a b h k. (refl, (h, k))) ws p q r
operands_back V.Repeat ws p q r = one_back (as_number 0 255) Lines.repeat _ (λ c. (0 ≤ c) × (c ≤ 255)) _ (reads_by _ _ _ (between_back 0 255 (omega arith))) (λ a h. (refl, h.1)) ws p q r
operands_back (V.Declare a v) ws p q r = one_back pointer_word (Lines.declare a v) _ _ _ a_pointer (λ p h. (refl, h)) ws p q r
operands_back (V.Bare k) ws p q r = then_made (λ _. ws ≡ []) (SaidBy (keyword_word k) ws) (no_word (first_of ws p)) _ (none_back ws p) (λ _ h0. (ap (λ t. keyword_word k ∷ t) h0, tt))

pub said_back : (ws : List (List ℕ)) (l : ℕ) → IfOk (line_said ws l) (λ x. (ws ≡ line_words x) × FitsLine x)
unfolding line_said
said_back ws l =
    then_made _ _ (read_by verb (first_of ws (place l 1))) _ (reads_by _ _ _ verb_back ws (place l 1)) (λ v hv.
    IfOk-weaker (operands v (first_of (others ws) (place l 2)) (first_of (others (others ws)) (place l 3)) (first_of (others (others (others ws))) (place l 4))) _ _
    (λ x hx. (hv.0 ∙ hx.0, hx.1)) (operands_back v (others ws) (place l 2) (place l 3) (place l 4)))

-- Forth.

pub said_forth : (x : Line) (l : ℕ) → FitsLine x → line_said (line_words x) l ≡ Ok x
unfolding line_said verb is_word
said_forth (Lines.set i z) l h = rw (local_forth i h.0, literal_forth z h.1)
said_forth (Lines.add i j) l h = rw (local_forth i h.0, local_forth j h.1)
said_forth (Lines.point p o) l h = rw (pointer_forth p h.0, object_forth o h.1)
said_forth (Lines.alias p q) l h = rw (pointer_forth p h.0, pointer_forth q h.1)
said_forth (Lines.read i p) l h = rw (local_forth i h.0, pointer_forth p h.1)
said_forth (Lines.write p i) l h = rw (pointer_forth p h.0, local_forth i h.1)
said_forth (Lines.join p i) l h = rw (pointer_forth p h.0, local_forth i h.1)
said_forth (Lines.if i j) l h = rw (local_forth i h.0, local_forth j h.1)
said_forth (Lines.repeat c) l h = rw (between_forth 0 255 (omega arith) c (omega arith, h))
said_forth (Lines.declare a v p) l h = rw (declaration_forth a v, pointer_forth p h)
said_forth (Lines.keyword k) l h = rw (keyword_forth k)

plain_digits : (s : List ℕ) → all_ascii_digits s ≡ true → plain s ≡ true
plain_digits [] d = refl
plain_digits (b ∷ bs) d =
    let p = and_parts (is_ascii_digit b) (all_ascii_digits bs) d in
    let q = and_parts (leb 48 b) (leb b 57) p.0 in
    and_from _ _ (lt-ltb 32 b (omega (arith, leb-true 48 b q.0))) (plain_digits bs p.1)

-- Each word of a line is a word of at most 7 bytes.

pub number_word : (n : ℕ) → n < 100000 → Word (decimal n)
number_word n h = (plain_digits (decimal n) (all_digits n (omega arith)), omega (arith, length-decimal-le 5 n (omega arith) (omega arith) (omega arith)))

-- a letter or a minus before a number
letter_word : (b n : ℕ) → 32 < b → n < 100000 → Word (b ∷ decimal n)
letter_word b n l h = (and_from _ _ (lt-ltb 32 b l) (number_word n h).0, omega (arith, length-decimal-le 5 n (omega arith) (omega arith) (omega arith)))

pub literal_a_word : (z : ℤ) → Literal z → Word (signed_decimal z)
literal_a_word (pos n) h = number_word n (omega arith)
literal_a_word (negsuc n) h = letter_word 45 (suc n) (omega arith) (omega arith)

keyword_a_word : (k : Keyword) → Word (keyword_word k)
keyword_a_word K.Else = (refl, omega arith)
keyword_a_word K.Task = (refl, omega arith)
keyword_a_word K.Do = (refl, omega arith)
keyword_a_word K.With = (refl, omega arith)
keyword_a_word K.Cont = (refl, omega arith)
keyword_a_word K.End = (refl, omega arith)

declaration_a_word : (a : Access) (v : Level) → Word (declaration_word a v)
declaration_a_word A.Rd Lv.Immediate = (refl, omega arith)
declaration_a_word A.Wr Lv.Immediate = (refl, omega arith)
declaration_a_word A.Cm Lv.Immediate = (refl, omega arith)
declaration_a_word A.Rd Lv.Deferred = (refl, omega arith)
declaration_a_word A.Wr Lv.Deferred = (refl, omega arith)
declaration_a_word A.Cm Lv.Deferred = (refl, omega arith)
declaration_a_word A.Rd Lv.Absent = (refl, omega arith)
declaration_a_word A.Wr Lv.Absent = (refl, omega arith)
declaration_a_word A.Cm Lv.Absent = (refl, omega arith)

-- a letter before a small number
name_a_word : (b n : ℕ) → 32 < b → n ≤ 15 → Word (b ∷ decimal n)
name_a_word b n l h = letter_word b n l (omega arith)

-- a first word, and two names or less after it
three : (v w u : List ℕ) → Word v → Word w → Word u → Words (v ∷ w ∷ u ∷ [])
three v w u h k m = record { some = omega arith; few = omega arith; words = (h, (k, (m, tt))) }

pub pair_of : (v w : List ℕ) → Word v → Word w → Words (v ∷ w ∷ [])
pair_of v w h k = record { some = omega arith; few = omega arith; words = (h, (k, tt)) }

pub single : (v : List ℕ) → Word v → Words (v ∷ [])
single v h = record { some = omega arith; few = omega arith; words = (h, tt) }

a_name : (b n : ℕ) → 32 < b → n ≤ 3 → Word (b ∷ decimal n)
a_name b n l h = name_a_word b n l (omega arith)

pub line_has_words : (x : Line) → FitsLine x → Words (line_words x)
line_has_words (Lines.set i z) h = three _ _ _ (refl, omega arith) (a_name 110 i (omega arith) h.0) (literal_a_word z h.1)
line_has_words (Lines.add i j) h = three _ _ _ (refl, omega arith) (a_name 110 i (omega arith) h.0) (a_name 110 j (omega arith) h.1)
line_has_words (Lines.point p o) h = three _ _ _ (refl, omega arith) (a_name 112 p (omega arith) h.0) (name_a_word 111 o (omega arith) h.1)
line_has_words (Lines.alias p q) h = three _ _ _ (refl, omega arith) (a_name 112 p (omega arith) h.0) (a_name 112 q (omega arith) h.1)
line_has_words (Lines.read i p) h = three _ _ _ (refl, omega arith) (a_name 110 i (omega arith) h.0) (a_name 112 p (omega arith) h.1)
line_has_words (Lines.write p i) h = three _ _ _ (refl, omega arith) (a_name 112 p (omega arith) h.0) (a_name 110 i (omega arith) h.1)
line_has_words (Lines.join p i) h = three _ _ _ (refl, omega arith) (a_name 112 p (omega arith) h.0) (a_name 110 i (omega arith) h.1)
line_has_words (Lines.if i j) h = three _ _ _ (refl, omega arith) (a_name 110 i (omega arith) h.0) (a_name 110 j (omega arith) h.1)
line_has_words (Lines.repeat c) h = pair_of _ _ (refl, omega arith) (number_word c (omega arith))
line_has_words (Lines.declare a v p) h = pair_of _ _ (declaration_a_word a v) (a_name 112 p (omega arith) h)
line_has_words (Lines.keyword k) h = single _ (keyword_a_word k)
