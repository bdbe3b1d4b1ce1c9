-- The lines section read as main's block, and a text as a card.
use Rattle.std.proofs.Common.{◌≡◌, ℕ, ◌+◌, ◌<◌, ◌≤◌, List, length, Ok, Err, Result, sym, ap, ◌∙◌, subst, arith}
use Rattle.std.proofs.lemmas.Bool.{le-ltb, cond-false}
use Rattle.cards.specs.Code.{Block}
use Rattle.cards.specs.declared.card.Card as Rust
use Rattle.loading.specs.declared.refusal.LineFault.{LineFault}
use Rattle.loading.specs.declared.refusal.LoadRefusal.{LoadRefusal}
use Rattle.loading.specs.declared.refusal.LoadRefusal.TheVariants.{TooLong, Line, TooManyTasks, TooManySteps, Memory}
use Rattle.loading.specs.declared.cursor.Cursor.{Cursor}
use Rattle.loading.specs.declared.blocks.Closer.{Closer}
use Rattle.loading.specs.Texts.{Said, section, rest_of, text_number, upcoming}
use Rattle.loading.specs.Blocks.{Out, got, bad, read_block, AnswerIs}
use Rattle.loading.specs.Headers.{Header, read_header, HeaderIs}
use Rattle.loading.specs.Loading.{section_ended, main_block, whole_section, header_lines, read_body, after_body, after_header, reading, Begins, BodyIs, FitsBody, ReadingIs}
use Rattle.loading.proofs.Fits.{lines_in, section_lines, section_length, BlockFits, reads_fit}

module _ (h : Header) (s : List ℕ) (c d : Cursor) (begins : Begins c h.lines (length h.words) d) (number : text_number c ≡ 6 + length h.words) (text : rest_of c ≡ s) where
  header_is : d.header ≡ header_lines h
  header_is = omega (arith, begins.header)

  upcoming_is : upcoming d ≡ section h.lines s (header_lines h + 1)
  unfolding upcoming
  upcoming_is =
      ap (λ m. section m (rest_of d) (d.header + d.line)) begins.left
      ∙ ap (λ t. section h.lines t (d.header + d.line)) (begins.rest ∙ text)
      ∙ ap (λ n. section h.lines s n) (omega (arith, header_is, begins.line))

  enough : length (upcoming d) < h.lines + 2
  enough = rw upcoming_is (omega (arith, section_length h.lines s (header_lines h + 1)))

  block_is : read_block d.header d.objects (h.lines + 2) (upcoming d) d.line 8 ≡ read_block (header_lines h) (length h.words) (h.lines + 2) (section h.lines s (header_lines h + 1)) 1 8
  block_is =
      ap (λ u. read_block d.header d.objects (h.lines + 2) u d.line 8) upcoming_is
      ∙ ap (λ m. read_block m d.objects (h.lines + 2) (section h.lines s (header_lines h + 1)) d.line 8) header_is
      ∙ ap (λ m. read_block (header_lines h) m (h.lines + 2) (section h.lines s (header_lines h + 1)) d.line 8) begins.objects
      ∙ ap (λ m. read_block (header_lines h) (length h.words) (h.lines + 2) (section h.lines s (header_lines h + 1)) m 8) begins.line

  read_is : (o : Out (Block × Closer)) → read_block d.header d.objects (h.lines + 2) (upcoming d) d.line 8 ≡ o → read_body h s ≡ whole_section o
  unfolding read_body
  read_is o e = ap whole_section (sym block_is ∙ e)

  pub body_fails : {A : Type 0} (g : A → Block × Closer) (y : LoadRefusal) (e : Cursor) → ((f : ℕ) → length (upcoming d) < f → AnswerIs g (Err y) (read_block d.header d.objects f (upcoming d) d.line 8) e) → BodyIs (Err y) h s
  body_fails g (Line z) e a = read_is (bad z) (a (h.lines + 2) enough)
  body_fails g Memory e a = tt
  body_fails g TooLong e a = a (h.lines + 2) enough
  body_fails g TooManyTasks e a = a (h.lines + 2) enough
  body_fails g TooManySteps e a = a (h.lines + 2) enough

  module _ (b : Block) (q : Closer) (t : List Said) (l : ℕ) (a : (f : ℕ) → length (upcoming d) < f → read_block d.header d.objects f (upcoming d) d.line 8 ≡ got (b, q) t l) where
    ended_is : (r : Result (Unit {0}) LineFault) → r ≡ section_ended q → read_body h s ≡ main_block r b
    ended_is r e = read_is (got (b, q) t l) (a (h.lines + 2) enough) ∙ ap (λ x. main_block x b) (sym e)

    pub body_open : (z : LineFault) → Err z ≡ section_ended q → read_body h s ≡ Err z
    body_open z e = ended_is (Err z) e

    pub body_reads : Ok tt ≡ section_ended q → (read_body h s ≡ Ok b) × FitsBody h b
    body_reads e =
        let fit = subst (BlockFits d.objects 8 (upcoming d)) (a (h.lines + 2) enough) (reads_fit d.header d.objects (h.lines + 2) (upcoming d) d.line 8) in (
          ended_is (Ok tt) e,
          record {
            lines = omega (arith, fit.lines, lines_left);
            deep = fit.deep;
            pointed = omega (arith, fit.objects, begins.objects);
          },
        )
      where
        lines_left : lines_in (upcoming d) ≤ h.lines
        lines_left = rw upcoming_is (section_lines h.lines s (header_lines h + 1))

-- A text that is not too long.

module _ (s : List ℕ) (short : length s ≤ 16_384) where
  reading_is : (o : Result (Header × List ℕ) LineFault) → read_header s ≡ o → reading s ≡ after_header o
  unfolding reading
  reading_is o e = cond-false _ _ _ (le-ltb _ _ short) ∙ ap after_header e

  pub header_fails : {A : Type 0} (g : A → Header) (y : LoadRefusal) (c : Cursor) → HeaderIs g (Err y) (read_header s) c → ReadingIs (Err y) (reading s)
  header_fails g (Line z) c e = reading_is (Err z) e
  header_fails g Memory c e = tt
  header_fails g TooLong c e = elim e [ ]
  header_fails g TooManyTasks c e = elim e [ ]
  header_fails g TooManySteps c e = elim e [ ]

  module _ (h : Header) (t : List ℕ) (e : read_header s ≡ Ok (h, t)) where
    body_is : (r : Result Block LineFault) → read_body h t ≡ r → reading s ≡ after_body h r
    body_is r g = reading_is (Ok (h, t)) e ∙ ap (after_body h) g

    pub body_fails_reading : (y : LoadRefusal) → BodyIs (Err y) h t → ReadingIs (Err y) (reading s)
    body_fails_reading (Line z) g = body_is (Err z) g
    body_fails_reading Memory g = tt
    body_fails_reading TooLong g = elim g [ ]
    body_fails_reading TooManyTasks g = elim g [ ]
    body_fails_reading TooManySteps g = elim g [ ]

    pub reading_by : (b : Block) (r : Result Rust.Card LoadRefusal) → read_body h t ≡ Ok b → ReadingIs r (after_body h (Ok b)) → ReadingIs r (reading s)
    reading_by b r g a = subst (ReadingIs r) (sym (body_is (Ok b) g)) a
