-- The lines of a header, one by one.
use Rattle.std.proofs.Common.{◌≡◌, ℕ, suc, ◌+◌, ◌-◌, ◌<◌, List, [], ◌∷◌, ◌++◌, ℤ, Ok, Err, Result, sym, refl, ap, ◌∙◌, arith}
use Rattle.cards.specs.declared.lines.KindName.{KindName}
use Rattle.cards.specs.declared.lines.OrderName.{OrderName}
use Rattle.loading.specs.declared.refusal.LineFault.{LineFault}
use Rattle.loading.specs.declared.refusal.LoadRefusal.{LoadRefusal}
use Rattle.loading.specs.declared.refusal.LoadRefusal.TheVariants as R
use Rattle.loading.specs.declared.cursor.Cursor.{Cursor}
use Rattle.loading.specs.Lines.{then}
use Rattle.loading.specs.Texts.{rest_of, text_number}
use Rattle.loading.specs.Headers.{Form, bench_form, kind_form, order_form, objects_form, lines_form, literal_form, header_line, literals_after, Header, next_line, next_literals, read_header, HeaderLine, HeaderIs, literals_of}

module _ (n i : ℕ) (vs : List ℤ) (s : List ℕ) (l : ℕ) where
  literals_one : i < n → (o : Result (ℤ × List ℕ) LineFault) → header_line literal_form s l ≡ o → literals_after (n - i) vs s l ≡ then o (λ p. literals_after (n - (i + 1)) (vs ++ p.0 ∷ []) p.1 (suc l))
  unfolding literals_after
  literals_one h o e =
      let less : n - i ≡ suc (n - (i + 1)) = omega arith in
      rw less (ap (λ x. then x (λ p. literals_after (n - (i + 1)) (vs ++ p.0 ∷ []) p.1 (suc l))) e)

  pub literals_stop : i < n → (y : LineFault) → header_line literal_form s l ≡ Err y → literals_after (n - i) vs s l ≡ Err y
  literals_stop h y e = literals_one h (Err y) e

  pub literals_more : i < n → (z : ℤ) (t : List ℕ) (l' : ℕ) → header_line literal_form s l ≡ Ok (z, t) → l' ≡ l + 1 → literals_after (n - i) vs s l ≡ literals_after (n - (i + 1)) (vs ++ z ∷ []) t l'
  literals_more h z t l' e e₁ = let e₂ : l' ≡ suc l = omega arith in literals_one h (Ok (z, t)) e ∙ rw e₂ refl

  pub literals_none : n < i + 1 → literals_after (n - i) vs s l ≡ Ok (vs, s)
  unfolding literals_after
  literals_none h = let none : n - i ≡ 0 = omega arith in rw none refl

-- A line by its form; m is n.

module _ {A B : Type 0} (f : Form A) (s : List ℕ) (m n : ℕ) (k : A → List ℕ → Result B LineFault) (e : m ≡ n) where
  pub line_ok : (x : A) (t : List ℕ) → header_line f s m ≡ Ok (x, t) → next_line f s n k ≡ k x t
  unfolding next_line
  line_ok x t g = ap (λ l. next_line f s l k) (sym e) ∙ ap (λ r. then r (λ p. k p.0 p.1)) g

  pub line_err : (y : LineFault) → header_line f s m ≡ Err y → next_line f s n k ≡ Err y
  unfolding next_line
  line_err y g = ap (λ l. next_line f s l k) (sym e) ∙ ap (λ r. then r (λ p. k p.0 p.1)) g

module _ {B : Type 0} (c : ℕ) (s : List ℕ) (m n : ℕ) (k : List ℤ → List ℕ → Result B LineFault) (e : m ≡ n) where
  pub literals_ok : (x : List ℤ) (t : List ℕ) → literals_after c [] s m ≡ Ok (x, t) → next_literals c s n k ≡ k x t
  unfolding next_literals
  literals_ok x t g = ap (λ l. next_literals c s l k) (sym e) ∙ ap (λ r. then r (λ p. k p.0 p.1)) g

  pub literals_err : (y : LineFault) → literals_after c [] s m ≡ Err y → next_literals c s n k ≡ Err y
  unfolding next_literals
  literals_err y g = ap (λ l. next_literals c s l k) (sym e) ∙ ap (λ r. then r (λ p. k p.0 p.1)) g

-- a refusal passed up
pub fails_with : {A B C D : Type 0} (f : A → B) (g : C → D) (y : LoadRefusal) (o : Result (B × List ℕ) LineFault) (p : Result (D × List ℕ) LineFault) (c d : Cursor) → ((z : LineFault) → o ≡ Err z → p ≡ Err z) → HeaderIs f (Err y) o c → HeaderIs g (Err y) p d
fails_with f g (R.Line z) o p c d up h = up z h
fails_with f g R.Memory o p c d up h = tt
fails_with f g R.TooLong o p c d up h = h
fails_with f g R.TooManyTasks o p c d up h = h
fails_with f g R.TooManySteps o p c d up h = h

-- A whole header, which stops at a line or says all; c0 to c6 stand before each line and after the last.

module _ (c0 : Cursor) (n0 : text_number c0 ≡ 1) where
  pub stops_bench : (y : LineFault) (d : Cursor) → HeaderLine bench_form (Err y) c0 d → read_header (rest_of c0) ≡ Err y
  unfolding read_header
  stops_bench y d h = line_err bench_form _ _ _ _ n0 y h

  module _ (c1 : Cursor) (bench : HeaderLine bench_form (Ok tt) c0 c1) where
    n1 : text_number c1 ≡ 2
    n1 = omega (arith, bench.1)

    pub stops_kind : (y : LineFault) (d : Cursor) → HeaderLine kind_form (Err y) c1 d → read_header (rest_of c0) ≡ Err y
    unfolding read_header
    stops_kind y d h = line_ok bench_form _ _ _ _ n0 _ _ bench.0 ∙ line_err kind_form _ _ _ _ n1 y h

    module _ (k : KindName) (c2 : Cursor) (kind : HeaderLine kind_form (Ok k) c1 c2) where
      n2 : text_number c2 ≡ 3
      n2 = omega (arith, kind.1)

      pub stops_order : (y : LineFault) (d : Cursor) → HeaderLine order_form (Err y) c2 d → read_header (rest_of c0) ≡ Err y
      unfolding read_header
      stops_order y d h = line_ok bench_form _ _ _ _ n0 _ _ bench.0 ∙ line_ok kind_form _ _ _ _ n1 _ _ kind.0 ∙ line_err order_form _ _ _ _ n2 y h

      module _ (o : OrderName) (c3 : Cursor) (order : HeaderLine order_form (Ok o) c2 c3) where
        n3 : text_number c3 ≡ 4
        n3 = omega (arith, order.1)

        pub stops_objects : (y : LineFault) (d : Cursor) → HeaderLine objects_form (Err y) c3 d → read_header (rest_of c0) ≡ Err y
        unfolding read_header
        stops_objects y d h = line_ok bench_form _ _ _ _ n0 _ _ bench.0 ∙ line_ok kind_form _ _ _ _ n1 _ _ kind.0 ∙ line_ok order_form _ _ _ _ n2 _ _ order.0 ∙ line_err objects_form _ _ _ _ n3 y h

        module _ (m : ℕ) (c4 : Cursor) (objects : HeaderLine objects_form (Ok m) c3 c4) where
          n4 : text_number c4 ≡ 5
          n4 = omega (arith, objects.1)

          pub stops_literals : {C : Type 0} (g : C → Header) (y : LoadRefusal) (d e : Cursor) → HeaderIs literals_of (Err y) (literals_after m [] (rest_of c4) (text_number c4)) d → HeaderIs g (Err y) (read_header (rest_of c0)) e
          unfolding read_header
          stops_literals g y d e h = fails_with literals_of g y _ _ d e (λ z i. line_ok bench_form _ _ _ _ n0 _ _ bench.0 ∙ line_ok kind_form _ _ _ _ n1 _ _ kind.0 ∙ line_ok order_form _ _ _ _ n2 _ _ order.0 ∙ line_ok objects_form _ _ _ _ n3 _ _ objects.0 ∙ literals_err _ _ _ _ _ n4 z i) h

          module _ (ws : List ℤ) (c5 : Cursor) (words : literals_after m [] (rest_of c4) (text_number c4) ≡ Ok (ws, rest_of c5)) (more : text_number c5 ≡ text_number c4 + m) where
            n5 : text_number c5 ≡ 5 + m
            n5 = omega (arith, n4, more)

            pub stops_lines : (y : LineFault) (d : Cursor) → HeaderLine lines_form (Err y) c5 d → read_header (rest_of c0) ≡ Err y
            unfolding read_header
            stops_lines y d h = line_ok bench_form _ _ _ _ n0 _ _ bench.0 ∙ line_ok kind_form _ _ _ _ n1 _ _ kind.0 ∙ line_ok order_form _ _ _ _ n2 _ _ order.0 ∙ line_ok objects_form _ _ _ _ n3 _ _ objects.0 ∙ literals_ok _ _ _ _ _ n4 _ _ words ∙ line_err lines_form _ _ _ _ n5 y h

            pub says_all : (l : ℕ) (c6 : Cursor) → HeaderLine lines_form (Ok l) c5 c6 → (read_header (rest_of c0) ≡ Ok (record { kind = k; order = o; words = ws; lines = l }, rest_of c6)) × (text_number c6 ≡ 6 + m)
            unfolding read_header
            says_all l c6 h = (line_ok bench_form _ _ _ _ n0 _ _ bench.0 ∙ line_ok kind_form _ _ _ _ n1 _ _ kind.0 ∙ line_ok order_form _ _ _ _ n2 _ _ order.0 ∙ line_ok objects_form _ _ _ _ n3 _ _ objects.0 ∙ literals_ok _ _ _ _ _ n4 _ _ words ∙ line_ok lines_form _ _ _ _ n5 _ _ h.0, omega (arith, n5, h.1))
