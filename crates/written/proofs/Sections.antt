-- The lines section: its text is that of its lines, and is read back as them.
use Rattle.std.proofs.Common.{◌≡◌, ℕ, zero, suc, ◌+◌, ◌*◌, ◌≤◌, Bool, true, false, cond, eqb, List, [], ◌∷◌, length, IfOk, Ok, Err, Result, refl, ap, ◌∙◌, arith}
use Rattle.std.specs.List.{AllByRecursion}
use Rattle.std.proofs.lemmas.List.{nil_from_length}
use Rattle.std.proofs.lemmas.Bool.{eqb-true}
use Rattle.cards.specs.declared.lines.Declaration.{Declaration}
use Rattle.cards.specs.Code.{Block, end, next, Statement}
use Rattle.cards.specs.Bounds.{line_count, statement_lines}
use Rattle.words.specs.declared.fault.WordFault.{WordFault}
use Rattle.words.specs.Cuts.{after}
use Rattle.words.specs.Tokens.{words}
use Rattle.loading.specs.declared.refusal.LineFault.{LineFault}
use Rattle.loading.specs.declared.refusal.LineFault.TheVariants.{Surplus}
use Rattle.loading.specs.declared.line.Keyword.TheVariants as K
use Rattle.loading.specs.declared.blocks.SectionKind.{SectionKind}
use Rattle.loading.specs.declared.blocks.SectionKind.TheVariants as S
use Rattle.loading.specs.Lines as Lines
use Rattle.loading.specs.Lines.{Line, line_said}
use Rattle.loading.specs.Texts.{Said, text_line, onto, by_line, section}
use Rattle.written.specs.Written.{declaration_lines, block_lines, inner_lines, line_words, line, lines_text}
use Rattle.written.specs.Formed.{FitsLine, Given}
use Rattle.written.proofs.Cuts.{line_back, line_forth, after_line, words_forth, line_length}
use Rattle.written.proofs.Lines.{said_back, said_forth, line_has_words}

-- lines without a fault
abbrev pub oks : List Line → List Said
oks [] = []
oks (x ∷ xs) = Ok x ∷ oks xs

-- the keyword that ends a section
abbrev pub section_end : SectionKind → Line
section_end S.Task = Lines.keyword K.Do
section_end S.With = Lines.keyword K.Cont

-- no declaration of a task is withdrawn
abbrev pub Allowed : SectionKind → Declaration → Type 0
Allowed S.Task d = Given d.level
Allowed S.With d = Unit {0}

-- Back.

never_oks : {A : Type 0} (e : LineFault) (s : List Said) (xs : List Line) → Err e ∷ s ≡ oks xs → A
never_oks e s [] h = cc
never_oks e s (x ∷ xs) h = cc

pub record Back (m : ℕ) (s : List ℕ) (xs : List Line) : Type 0 where
  pub text : s ≡ lines_text xs
  pub count : length xs ≡ m
  pub fits : AllByRecursion FitsLine xs

one_more : (m : ℕ) (s : List ℕ) (x : Line) (xs : List Line) → s ≡ line (line_words x) (after 10 s) → FitsLine x → Back m (after 10 s) xs → Back (suc m) s (x ∷ xs)
unfolding lines_text
one_more m s x xs e f b = record { text = e ∙ ap (line (line_words x)) b.text; count = ap suc b.count; fits = (f, b.fits) }

pub section_back : (m : ℕ) (s : List ℕ) (n : ℕ) (xs : List Line) → section m s n ≡ oks xs → Back m s xs
unfolding section lines_text
section_back zero s n xs h = go (eqb (length s) 0) refl xs h
  where
    go : (t : Bool) → eqb (length s) 0 ≡ t → (ys : List Line) → cond t [] (Err (Surplus n) ∷ []) ≡ oks ys → Back 0 s ys
    go true e [] k = record { text = nil_from_length s (eqb-true _ _ e); count = refl; fits = tt }
    go true e (y ∷ ys) k = cc
    go false e ys k = never_oks (Surplus n) [] ys k
section_back (suc m) s n xs h = by (text_line s n) (line_back s n) xs h (section_back m (after 10 s) (suc n))
  where
    said : (b : List ℕ) (r : Result Line WordFault) → IfOk r (λ x. (words b ≡ line_words x) × FitsLine x) → s ≡ line (words b) (after 10 s) → (ys : List Line) → onto r (section m (after 10 s) (suc n)) ≡ oks ys → ((zs : List Line) → section m (after 10 s) (suc n) ≡ oks zs → Back m (after 10 s) zs) → Back (suc m) s ys
    said b (Err f) r e ys k ih = never_oks _ [] ys k
    said b (Ok x) r e [] k ih = cc
    said b (Ok x) r e (y ∷ ys) k ih =
        let same : x ≡ y = cc in
        let later : section m (after 10 s) (suc n) ≡ oks ys = cc in
        rw (← same) (one_more m s x ys (e ∙ ap (λ ws. line ws (after 10 s)) r.0) r.1 (ih ys later))

    by : (r : Result (List ℕ) LineFault) → IfOk r (λ b. s ≡ line (words b) (after 10 s)) → (ys : List Line) → by_line r n (section m (after 10 s) (suc n)) ≡ oks ys → ((zs : List Line) → section m (after 10 s) (suc n) ≡ oks zs → Back m (after 10 s) zs) → Back (suc m) s ys
    by (Err f) e ys k ih = never_oks f [] ys k
    by (Ok b) e ys k ih = said b (line_said (words b) n) (said_back (words b) n) e ys k ih

-- Forth.

pub section_forth : (xs : List Line) (n : ℕ) → AllByRecursion FitsLine xs → section (length xs) (lines_text xs) n ≡ oks xs
unfolding section lines_text
section_forth [] n f = refl
section_forth (x ∷ xs) n f =
    let w = line_has_words x f.0 in
    rw (line_forth (line_words x) (lines_text xs) w n, words_forth (line_words x) w, said_forth x n f.0, after_line (line_words x) (lines_text xs) w)
    (ap (λ s. Ok x ∷ s) (section_forth xs (suc n) f.1))

pub lines_length : (xs : List Line) → AllByRecursion FitsLine xs → length (lines_text xs) ≤ 25 * length xs
unfolding lines_text
lines_length [] f = omega arith
lines_length (x ∷ xs) f = omega (arith, line_length (line_words x) (lines_text xs) (line_has_words x f.0), lines_length xs f.1)

-- As many lines as are counted.

pub declarations_length : (ds : List Declaration) (r : List Line) → length (declaration_lines ds r) ≡ length ds + length r
declarations_length [] r = omega arith
declarations_length (d ∷ ds) r = omega (arith, declarations_length ds r)

mutual
  unfolding block_lines inner_lines line_count statement_lines

  pub block_length : (b : Block) (r : List Line) → length (block_lines b r) ≡ line_count b + length r
  block_length end r = omega arith
  block_length (next l x b) r = omega (arith, inner_length x (block_lines b r), block_length b r)

  pub inner_length : (x : Statement) (r : List Line) → suc (length (inner_lines x r)) ≡ statement_lines x + length r
  inner_length (Statement.set i z) r = omega arith
  inner_length (Statement.add i j) r = omega arith
  inner_length (Statement.point p o) r = omega arith
  inner_length (Statement.alias p q) r = omega arith
  inner_length (Statement.read i p) r = omega arith
  inner_length (Statement.write p i) r = omega arith
  inner_length (Statement.join p i) r = omega arith
  inner_length (Statement.if i j x) r = omega (arith, block_length x (Lines.keyword K.End ∷ r))
  inner_length (Statement.if_else i j x y) r = omega (arith, block_length x (Lines.keyword K.Else ∷ block_lines y (Lines.keyword K.End ∷ r)), block_length y (Lines.keyword K.End ∷ r))
  inner_length (Statement.repeat c x) r = omega (arith, block_length x (Lines.keyword K.End ∷ r))
  inner_length (Statement.task ds x) r = omega (arith, declarations_length ds (Lines.keyword K.Do ∷ block_lines x (Lines.keyword K.End ∷ r)), block_length x (Lines.keyword K.End ∷ r))
  inner_length (Statement.with ds) r = omega (arith, declarations_length ds (Lines.keyword K.Cont ∷ r))
