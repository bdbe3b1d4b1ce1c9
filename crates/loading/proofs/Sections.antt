-- The lines of a section, one by one.
use Rattle.std.proofs.Common.{◌≡◌, ℕ, zero, suc, ◌+◌, ◌-◌, ◌<◌, true, List, [], ◌∷◌, length, Ok, Err, sym, refl, ap, ◌∙◌, arith, length-drop}
use Rattle.std.proofs.lemmas.Bool.{ltb-true}
use Rattle.words.specs.declared.fault.WordFault.{WordFault}
use Rattle.words.specs.Cuts.{upto, has, after}
use Rattle.words.specs.Tokens.{words}
use Rattle.loading.specs.declared.refusal.LineFault.{LineFault}
use Rattle.loading.specs.declared.refusal.LineFault.TheVariants.{Word}
use Rattle.loading.specs.Lines.{Line, line_said}
use Rattle.loading.specs.Texts.{text_line, onto, by_line, at_end, section}

pub after_shorter : (mark : ℕ) (s : List ℕ) → has mark s ≡ true → length (after mark s) < length s
after_shorter mark s h = omega (arith, length-drop (upto mark s + 1) s, ltb-true _ _ h)

pub section_none : (m : ℕ) (s : List ℕ) (n : ℕ) → m ≡ 0 → section m s n ≡ at_end s n
unfolding section
section_none m s n e = rw e refl

section_more : (m : ℕ) (s : List ℕ) (n : ℕ) → (m ≡ 0 → ⊥) → section m s n ≡ by_line (text_line s n) n (section (m - 1) (after 10 s) (suc n))
unfolding section
section_more zero s n ne = absurd (ne refl)
section_more (suc m) s n ne = let e : suc m - 1 ≡ m = omega arith in rw e refl

module _ (m : ℕ) (s : List ℕ) (n : ℕ) (ne : m ≡ 0 → ⊥) where
  pub section_stops : (e : LineFault) → text_line s n ≡ Err e → section m s n ≡ Err e ∷ []
  section_stops e f = section_more m s n ne ∙ ap (λ r. by_line r n (section (m - 1) (after 10 s) (suc n))) f

  module _ (b : List ℕ) (f : text_line s n ≡ Ok b) where
    said_of : section m s n ≡ onto (line_said (words b) n) (section (m - 1) (after 10 s) (suc n))
    said_of = section_more m s n ne ∙ ap (λ r. by_line r n (section (m - 1) (after 10 s) (suc n))) f

    pub section_unfit : (e : WordFault) → Err e ≡ line_said (words b) n → section m s n ≡ Err (Word e) ∷ []
    section_unfit e g = said_of ∙ ap (λ r. onto r (section (m - 1) (after 10 s) (suc n))) (sym g)

    pub section_says : (x : Line) (k : ℕ) (t : List ℕ) (p : ℕ) → Ok x ≡ line_said (words b) n → k ≡ m - 1 → t ≡ after 10 s → p ≡ suc n → section m s n ≡ Ok x ∷ section k t p
    section_says x k t p g ek et ep = said_of ∙ ap (λ r. onto r (section (m - 1) (after 10 s) (suc n))) (sym g) ∙ rw (ek, et, ep) refl
