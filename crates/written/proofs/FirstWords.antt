-- A line's fault is its first word at fault: the words through it decide the fault, and the words before it begin a line that is none.
use Rattle.std.proofs.Common.{◌≡◌, ℕ, suc, ◌+◌, List, [], ◌∷◌, take, pos, Some, None, Ok, Err, codes, Option, Result, sym, refl, ap, ◌∙◌, arith}
use Rattle.cards.specs.declared.lines.KindName.TheVariants as Kind
use Rattle.cards.specs.declared.lines.OrderName.TheVariants as Order
use Rattle.words.specs.declared.fault.WordFault.{WordFault}
use Rattle.words.specs.declared.fault.WordFault.TheVariants.{Unfit, Missing, Surplus}
use Rattle.words.specs.Numbers.{reads, number, not_below, literal}
use Rattle.words.specs.Names.{name, as_local, as_pointer, as_object}
use Rattle.words.specs.Tokens.{first_of, others, place}
use Rattle.words.specs.Reading.{or_unfit, read_by, is_word, same_word, no_word}
use Rattle.loading.specs.Refusals.{place_of}
use Rattle.loading.specs.declared.line.Keyword.TheVariants as K
use Rattle.loading.specs.declared.line.Verb.{Verb}
use Rattle.loading.specs.declared.line.Verb.TheVariants as V
use Rattle.loading.specs.Lines as Lines
use Rattle.loading.specs.Lines.{Line, then, find, verb, operands, line_said}
use Rattle.loading.specs.Headers.{kinds, orders, bench_form, kind_form, order_form, objects_form, lines_form, literal_form}

-- f reads the words of line n from word j + 1 on
module _ {A : Type 0} (n j : ℕ) (f : List (List ℕ) → Result A WordFault) where
  -- some words are none at fault
  pub record Fine : Type 0 where
    pub words : List (List ℕ)
    pub value : A
    pub fine : f words ≡ Ok value

  pub record FirstWord (ws : List (List ℕ)) (y : WordFault) : Type 0 where
    pub before : ℕ
    pub line : (place_of y).line ≡ n
    pub word : (place_of y).word ≡ j + suc before
    pub later : (vs : List (List ℕ)) → take (suc before) ws ≡ take (suc before) vs → f vs ≡ Err y
    pub words : List (List ℕ)
    pub value : A
    pub fine : f words ≡ Ok value
    pub same : take before ws ≡ take before words

  -- each fault is one of the first word at fault
  abbrev pub Firsts : Type 0
  Firsts = (ws : List (List ℕ)) (y : WordFault) → f ws ≡ Err y → FirstWord ws y

-- no word more
module _ {A : Type 0} (n j : ℕ) (x : A) where
  abbrev last : List (List ℕ) → Result A WordFault
  last ws = then (no_word (first_of ws (place n (suc j)))) (λ _. Ok x)

  last_fine : Fine n j last
  last_fine = record { words = []; value = x; fine = refl }

  last_first : Firsts n j last
  last_first [] y e = cc
  last_first (w ∷ ws) y e =
      let is : y ≡ Surplus (place n (suc j)) = cc in
      record { before = 0; line = ap (λ z. (place_of z).line) is; word = ap (λ z. (place_of z).word) is ∙ omega arith; later = go is; words = []; value = x; fine = refl; same = refl }
    where
      go : y ≡ Surplus (place n (suc j)) → (vs : List (List ℕ)) → take 1 (w ∷ ws) ≡ take 1 vs → last vs ≡ Err y
      go is [] h = cc
      go is (v ∷ vs) h = ap Err (sym is)

-- a word that g reads, and the words after it
module _ {A B : Type 0} (n j : ℕ) (g : List ℕ → Option A) (d : List ℕ) (a : A) (reads : g d ≡ Some a) (f : A → List (List ℕ) → Result B WordFault) (fine : (x : A) → Fine n (suc j) (f x)) (firsts : (x : A) → Firsts n (suc j) (f x)) where
  abbrev step : List (List ℕ) → Result B WordFault
  step ws = then (read_by g (first_of ws (place n (suc j)))) (λ x. f x (others ws))

  step_fine : Fine n j step
  step_fine = record { words = d ∷ (fine a).words; value = (fine a).value; fine = rw reads (fine a).fine }

  step_first : Firsts n j step
  step_first [] y e = let is : y ≡ Missing (place n (suc j)) = cc in record { before = 0; line = ap (λ z. (place_of z).line) is; word = ap (λ z. (place_of z).word) is ∙ omega arith; later = go is; words = step_fine.words; value = step_fine.value; fine = step_fine.fine; same = refl }
    where
      go : y ≡ Missing (place n (suc j)) → (vs : List (List ℕ)) → [] ≡ take 1 vs → step vs ≡ Err y
      go is [] h = ap Err (sym is)
      go is (v ∷ vs) h = cc
  step_first (w ∷ ws) y e = by (g w) refl e
    where
      unfit : g w ≡ None → y ≡ Unfit (place n (suc j)) → (vs : List (List ℕ)) → take 1 (w ∷ ws) ≡ take 1 vs → step vs ≡ Err y
      unfit o is [] h = cc
      unfit o is (v ∷ vs) h = let same : v ≡ w = cc in rw (same, o) (ap Err (sym is))

      on : (x : A) → g w ≡ Some x → (k : ℕ) → ((vs : List (List ℕ)) → take (suc k) ws ≡ take (suc k) vs → f x vs ≡ Err y) → (vs : List (List ℕ)) → take (suc (suc k)) (w ∷ ws) ≡ take (suc (suc k)) vs → step vs ≡ Err y
      on x o k later [] h = cc
      on x o k later (v ∷ vs) h = let same : v ≡ w = cc in let rest : take (suc k) ws ≡ take (suc k) vs = cc in rw (same, o) (later vs rest)

      by : (o : Option A) → g w ≡ o → then (or_unfit o (place n (suc j))) (λ x. f x ws) ≡ Err y → FirstWord n j step (w ∷ ws) y
      by None o h = let is : y ≡ Unfit (place n (suc j)) = cc in record { before = 0; line = ap (λ z. (place_of z).line) is; word = ap (λ z. (place_of z).word) is ∙ omega arith; later = unfit o is; words = step_fine.words; value = step_fine.value; fine = step_fine.fine; same = refl }
      by (Some x) o h =
          let r = firsts x ws y h in
          record { before = suc r.before; line = r.line; word = omega (arith, r.word); later = on x o r.before r.later; words = w ∷ r.words; value = r.value; fine = rw o r.fine; same = ap (λ t. w ∷ t) r.same }

-- Forms.

abbrev pub ToldFirst : {A : Type 0} → ℕ → ℕ → (List (List ℕ) → Result A WordFault) → Type 0
ToldFirst n j f = Fine n j f × Firsts n j f

ends : {A : Type 0} (n j : ℕ) (x : A) → ToldFirst n j (last n j x)
ends n j x = (last_fine n j x, last_first n j x)

begins : {A B : Type 0} (n j : ℕ) (g : List ℕ → Option A) (d : List ℕ) (a : A) → g d ≡ Some a → (f : A → List (List ℕ) → Result B WordFault) → ((x : A) → ToldFirst n (suc j) (f x)) → ToldFirst n j (λ ws. then (read_by g (first_of ws (place n (suc j)))) (λ x. f x (others ws)))
begins n j g d a reads f more = (step_fine n j g d a reads f (λ x. (more x).0) (λ x. (more x).1), step_first n j g d a reads f (λ x. (more x).0) (λ x. (more x).1))

along : {A : Type 0} (n j : ℕ) (f g : List (List ℕ) → Result A WordFault) → ((ws : List (List ℕ)) → f ws ≡ g ws) → ToldFirst n j g → ToldFirst n j f
along n j f g same t = (
  record { words = t.0.words; value = t.0.value; fine = same t.0.words ∙ t.0.fine },
  λ ws y e. let r = t.1 ws y (sym (same ws) ∙ e) in record { before = r.before; line = r.line; word = r.word; later = λ vs h. same vs ∙ r.later vs h; words = r.words; value = r.value; fine = same r.words ∙ r.fine; same = r.same },
)

-- a pair made into a line at the end, or at once
at_once : {A B : Type 0} (make : A → B → Line) (r : Result A WordFault) (s : Result B WordFault) (u : Result (Unit {0}) WordFault) → then {A = A × B} (then r (λ a. then s (λ b. then u (λ _. Ok (a, b))))) (λ p. Ok (make p.0 p.1)) ≡ then r (λ a. then s (λ b. then u (λ _. Ok (make a b))))
at_once make (Ok a) (Ok b) (Ok x) = refl
at_once make (Ok a) (Ok b) (Err y) = refl
at_once make (Ok a) (Err y) u = refl
at_once make (Err y) s u = refl

two_told : {A B : Type 0} (n : ℕ) (f : List ℕ → Option A) (g : List ℕ → Option B) (make : A → B → Line) (d e : List ℕ) (a : A) (b : B) → f d ≡ Some a → g e ≡ Some b → ToldFirst n 1 (λ ws. Lines.two (read_by f) (read_by g) make (first_of ws (place n 2)) (first_of (others ws) (place n 3)) (first_of (others (others ws)) (place n 4)))
two_told n f g make d e a b reads reads' =
    along n 1 _ (λ ws. then (read_by f (first_of ws (place n 2))) (λ x. then (read_by g (first_of (others ws) (place n 3))) (λ y. then (no_word (first_of (others (others ws)) (place n 4))) (λ _. Ok (make x y)))))
    (λ ws. at_once make (read_by f (first_of ws (place n 2))) (read_by g (first_of (others ws) (place n 3))) (no_word (first_of (others (others ws)) (place n 4))))
    (begins n 1 f d a reads (λ x ws. then (read_by g (first_of ws (place n 3))) (λ y. then (no_word (first_of (others ws) (place n 4))) (λ _. Ok (make x y)))) (λ x. begins n 2 g e b reads' (λ y ws. then (no_word (first_of ws (place n 4))) (λ _. Ok (make x y))) (λ y. ends n 3 (make x y))))

operands_told : (n : ℕ) (v : Verb) → ToldFirst n 1 (λ ws. operands v (first_of ws (place n 2)) (first_of (others ws) (place n 3)) (first_of (others (others ws)) (place n 4)))
unfolding number reads
operands_told n V.Set = two_told n (λ w. as_local (name w)) literal Lines.set (codes "n0") (codes "0") 0 (pos 0) refl refl
operands_told n V.Add = two_told n (λ w. as_local (name w)) (λ w. as_local (name w)) Lines.add (codes "n0") (codes "n0") 0 0 refl refl
operands_told n V.Point = two_told n (λ w. as_pointer (name w)) (λ w. as_object (name w)) Lines.point (codes "p0") (codes "o0") 0 0 refl refl
operands_told n V.Alias = two_told n (λ w. as_pointer (name w)) (λ w. as_pointer (name w)) Lines.alias (codes "p0") (codes "p0") 0 0 refl refl
operands_told n V.Read = two_told n (λ w. as_local (name w)) (λ w. as_pointer (name w)) Lines.read (codes "n0") (codes "p0") 0 0 refl refl
operands_told n V.Write = two_told n (λ w. as_pointer (name w)) (λ w. as_local (name w)) Lines.write (codes "p0") (codes "n0") 0 0 refl refl
operands_told n V.Join = two_told n (λ w. as_pointer (name w)) (λ w. as_local (name w)) Lines.join (codes "p0") (codes "n0") 0 0 refl refl
operands_told n V.If = two_told n (λ w. as_local (name w)) (λ w. as_local (name w)) Lines.if (codes "n0") (codes "n0") 0 0 refl refl
operands_told n V.Repeat = begins n 1 (λ w. not_below 0 (number 255 w)) (codes "0") 0 refl (λ c ws. then (no_word (first_of ws (place n 3))) (λ _. Ok (Lines.repeat c))) (λ c. ends n 2 (Lines.repeat c))
operands_told n (V.Declare a v) = begins n 1 (λ w. as_pointer (name w)) (codes "p0") 0 refl (λ p ws. then (no_word (first_of ws (place n 3))) (λ _. Ok (Lines.declare a v p))) (λ p. ends n 2 (Lines.declare a v p))
operands_told n (V.Bare k) = ends n 1 (Lines.keyword k)

pub line_told_first : (n : ℕ) → ToldFirst n 0 (λ ws. line_said ws n)
unfolding line_said verb is_word
line_told_first n = begins n 0 verb (codes "end") (V.Bare K.End) refl (λ v ws. operands v (first_of ws (place n 2)) (first_of (others ws) (place n 3)) (first_of (others (others ws)) (place n 4))) (operands_told n)

worded_told : {A : Type 0} (n : ℕ) (v : List ℕ) → same_word v v ≡ Some tt → (f : List ℕ → Option A) (d : List ℕ) (a : A) → f d ≡ Some a → ToldFirst n 0 (λ ws. then (read_by (same_word v) (first_of ws (place n 1))) (λ _. then (read_by f (first_of (others ws) (place n 2))) (λ x. then (no_word (first_of (others (others ws)) (place n 3))) (λ _. Ok x))))
worded_told n v is f d a reads = begins n 0 (same_word v) v tt is (λ _ ws. then (read_by f (first_of ws (place n 2))) (λ x. then (no_word (first_of (others ws) (place n 3))) (λ _. Ok x))) (λ _. begins n 1 f d a reads (λ x ws. then (no_word (first_of ws (place n 3))) (λ _. Ok x)) (λ x. ends n 2 x))

pub bench_told : (n : ℕ) → ToldFirst n 0 (λ ws. bench_form ws n)
unfolding bench_form is_word
bench_told n = worded_told n (codes "bench") refl (same_word (codes "2")) (codes "2") tt refl

pub kind_told : (n : ℕ) → ToldFirst n 0 (λ ws. kind_form ws n)
unfolding kind_form is_word
kind_told n = worded_told n (codes "kind") refl (find kinds) (codes "tally") Kind.Tally refl

pub order_told : (n : ℕ) → ToldFirst n 0 (λ ws. order_form ws n)
unfolding order_form is_word
order_told n = worded_told n (codes "order") refl (find orders) (codes "first") Order.First refl

pub objects_told : (n : ℕ) → ToldFirst n 0 (λ ws. objects_form ws n)
unfolding objects_form is_word number reads
objects_told n = worded_told n (codes "objects") refl (λ w. not_below 1 (number 16 w)) (codes "1") 1 refl

pub lines_told : (n : ℕ) → ToldFirst n 0 (λ ws. lines_form ws n)
unfolding lines_form is_word number reads
lines_told n = worded_told n (codes "lines") refl (λ w. not_below 0 (number 256 w)) (codes "0") 0 refl

pub literal_told : (n : ℕ) → ToldFirst n 0 (λ ws. literal_form ws n)
unfolding literal_form number reads
literal_told n = begins n 0 literal (codes "0") (pos 0) refl (λ z ws. then (no_word (first_of ws (place n 2))) (λ _. Ok z)) (λ z. ends n 1 z)
