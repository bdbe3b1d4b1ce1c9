-- What the readers read fits its depth, its objects and its lines.
use Rattle.std.proofs.Common.{◌≡◌, ℕ, zero, suc, ◌+◌, ◌-◌, ◌<◌, ◌≤◌, Bool, true, false, cond, eqb, leb, List, [], ◌∷◌, ◌++◌, length, Some, None, Ok, Err, Option, Result, refl, arith, length-append}
use Rattle.std.proofs.lemmas.Bool.{eqb-false, leb-false}
use Rattle.cards.specs.declared.lines.Declaration.{Declaration}
use Rattle.cards.specs.Code.{Block, end, next, Statement}
use Rattle.cards.specs.Bounds.{depth, statement_depth, line_count, statement_lines, object_bound, statement_objects}
use Rattle.words.specs.declared.fault.WordFault.{WordFault}
use Rattle.words.specs.Tokens.{words}
use Rattle.words.specs.Cuts.{after}
use Rattle.loading.specs.declared.refusal.LineFault.{LineFault}
use Rattle.loading.specs.declared.refusal.LineFault.TheVariants.{Surplus, TooDeep, NoObject}
use Rattle.loading.specs.declared.line.Keyword.TheVariants as K
use Rattle.loading.specs.declared.blocks.Closer.{Closer}
use Rattle.loading.specs.declared.blocks.Closer.TheVariants as C
use Rattle.loading.specs.declared.blocks.SectionKind.{SectionKind}
use Rattle.loading.specs.declared.blocks.SectionKind.TheVariants as S
use Rattle.loading.specs.Lines as Lines
use Rattle.loading.specs.Lines.{Line, line_said}
use Rattle.loading.specs.Texts.{Said, text_line, onto, by_line, section}
use Rattle.loading.specs.Blocks.{Out, got, bad, bind, Mark, more, close, wrong, mark, by_mark, read_section, closer, ended, whole, Reader, arms, deeper, statement_by, followed, by_closer, block_by, read_block}

-- how many lines are there to be read before a fault
abbrev pub lines_in : List Said → ℕ
lines_in [] = 0
lines_in (Ok x ∷ s) = suc (lines_in s)
lines_in (Err e ∷ s) = 0

onto_lines : (r : Result Line WordFault) (s : List Said) → lines_in (onto r s) ≤ suc (lines_in s)
onto_lines (Ok x) s = omega arith
onto_lines (Err e) s = omega arith

by_lines : (r : Result (List ℕ) LineFault) (n : ℕ) (s : List Said) → lines_in (by_line r n s) ≤ suc (lines_in s)
by_lines (Ok b) n s = onto_lines (line_said (words b) n) s
by_lines (Err e) n s = omega arith

pub section_lines : (m : ℕ) (s : List ℕ) (n : ℕ) → lines_in (section m s n) ≤ m
unfolding section
section_lines zero s n = go (eqb (length s) 0)
  where
    go : (t : Bool) → lines_in (cond t [] (Err (Surplus n) ∷ [])) ≤ 0
    go true = omega arith
    go false = omega arith
section_lines (suc m) s n = omega (arith, by_lines (text_line s n) n (section m (after 10 s) (suc n)), section_lines m (after 10 s) (suc n))

onto_length : (r : Result Line WordFault) (s : List Said) → length (onto r s) ≤ suc (length s)
onto_length (Ok x) s = omega arith
onto_length (Err e) s = omega arith

by_length : (r : Result (List ℕ) LineFault) (n : ℕ) (s : List Said) → length (by_line r n s) ≤ suc (length s)
by_length (Ok b) n s = onto_length (line_said (words b) n) s
by_length (Err e) n s = omega arith

-- a section of m lines is read in at most m + 1 turns
pub section_length : (m : ℕ) (s : List ℕ) (n : ℕ) → length (section m s n) ≤ m + 1
unfolding section
section_length zero s n = go (eqb (length s) 0)
  where
    go : (t : Bool) → length {A = Said} (cond t [] (Err (Surplus n) ∷ [])) ≤ 0 + 1
    go true = omega arith
    go false = omega arith
section_length (suc m) s n = omega (arith, by_length (text_line s n) n (section m (after 10 s) (suc n)), section_length m (after 10 s) (suc n))

-- Declaration sections.

abbrev SectionFits : List Declaration → List Said → Out (List Declaration) → Type 0
SectionFits ds s (got es t l) = length es + suc (lines_in t) ≤ length ds + lines_in s
SectionFits ds s (bad e) = Unit {0}

grown : (ds : List Declaration) (d : Declaration) → length (ds ++ d ∷ []) ≡ length ds + 1
grown ds d = length-append ds (d ∷ [])

one_more : (ds : List Declaration) (d : Declaration) (s : List Said) (x : Line) (o : Out (List Declaration)) → SectionFits (ds ++ d ∷ []) s o → SectionFits ds (Ok x ∷ s) o
one_more ds d s x (got es t l) h = omega (arith, grown ds d)
one_more ds d s x (bad e) h = tt

mark_fits : (m : Mark) (h : ℕ) (ds : List Declaration) (s : List Said) (l : ℕ) (x : Line) (k : List Declaration → Out (List Declaration)) → ((es : List Declaration) → SectionFits es s (k es)) → SectionFits ds (Ok x ∷ s) (by_mark m h ds s l k)
mark_fits (more d) h ds s l x k fits = one_more ds d s x (k (ds ++ d ∷ [])) (fits (ds ++ d ∷ []))
mark_fits close h ds s l x k fits = omega arith
mark_fits wrong h ds s l x k fits = tt

section_fits : (h : ℕ) (k : SectionKind) (ds : List Declaration) (s : List Said) (l : ℕ) → SectionFits ds s (read_section h k ds s l)
unfolding read_section
section_fits h k ds [] l = tt
section_fits h k ds (Err e ∷ s) l = tt
section_fits h k ds (Ok x ∷ s) l = mark_fits (mark x k l) h ds s l x (λ es. read_section h k es s (suc l)) (λ es. section_fits h k es s (suc l))

-- Blocks and statements.

abbrev closer_lines : Closer → ℕ
closer_lines (C.End n) = 1
closer_lines (C.Else n) = 1
closer_lines C.Out = 0

-- a block that nests at most d deep on n objects, read from s
pub record Fit (n d : ℕ) (s : List Said) (b : Block) (q : Closer) (t : List Said) : Type 0 where
  pub deep : depth b ≤ d
  pub objects : object_bound b ≤ n
  pub lines : line_count b + (closer_lines q + lines_in t) ≤ lines_in s

-- a statement, of which the first line is read
record FitStatement (n d : ℕ) (s : List Said) (x : Statement) (t : List Said) : Type 0 where
  deep : statement_depth x ≤ d
  objects : statement_objects x ≤ n
  lines : statement_lines x + lines_in t ≤ suc (lines_in s)

abbrev pub BlockFits : ℕ → ℕ → List Said → Out (Block × Closer) → Type 0
BlockFits n d s (got (b, q) t l) = Fit n d s b q t
BlockFits n d s (bad e) = Unit {0}

abbrev StatementFits : ℕ → ℕ → List Said → Out Statement → Type 0
StatementFits n d s (got x t l) = FitStatement n d s x t
StatementFits n d s (bad e) = Unit {0}

deeper_fits : (n d m : ℕ) (s : List Said) (o : Out Statement) → (0 < d → StatementFits n d s o) → StatementFits n d s (deeper d m o)
deeper_fits n d m s o h = go (eqb d 0) refl
  where
    go : (t : Bool) → eqb d 0 ≡ t → StatementFits n d s (cond t (bad (TooDeep m)) o)
    go true e = tt
    go false e = let ne = eqb-false d 0 e in h (omega arith)

whole_fits : (n d : ℕ) (s : List Said) (r : Result (Unit {0}) LineFault) (x : Statement) (t : List Said) (l : ℕ) → FitStatement n d s x t → StatementFits n d s (whole r x t l)
whole_fits n d s (Ok u) x t l h = h
whole_fits n d s (Err e) x t l h = tt

closed_fits : (n d : ℕ) (s : List Said) (q : Closer) (m : ℕ) (x : Statement) (t : List Said) (l : ℕ) → (closer_lines q ≡ 1 → FitStatement n d s x t) → StatementFits n d s (whole (ended q m) x t l)
closed_fits n d s (C.End k) m x t l h = h refl
closed_fits n d s (C.Else k) m x t l h = tt
closed_fits n d s C.Out m x t l h = tt

module _ (h n : ℕ) (k : Reader) (fits : (s : List Said) (l d : ℕ) → BlockFits n d s (k s l d)) where
  if_fits : (d i j : ℕ) (x : Block) (s t : List Said) (m : ℕ) → 0 < d → Fit n (d - 1) s x (C.End m) t → FitStatement n d s (Statement.if i j x) t
  unfolding statement_depth statement_objects statement_lines
  if_fits d i j x s t m p f = record { deep = omega (arith, f.deep); objects = f.objects; lines = omega (arith, f.lines) }

  else_fits : (d i j : ℕ) (x : Block) (s t : List Said) (m : ℕ) → 0 < d → Fit n (d - 1) s x (C.Else m) t → (o : Out (Block × Closer)) → BlockFits n (d - 1) t o → StatementFits n d s (bind o (λ q s' l'. whole (ended q.1 (h + l')) (Statement.if_else i j x q.0) s' l'))
  unfolding statement_depth statement_objects statement_lines
  else_fits d i j x s t m p f (bad e) g = tt
  else_fits d i j x s t m p f (got (y, q) u l) g =
      closed_fits n d s q (h + l) (Statement.if_else i j x y) u l
      (λ one. record { deep = omega (arith, f.deep, g.deep); objects = omega (arith, f.objects, g.objects); lines = omega (arith, f.lines, g.lines) })

  arms_fit : (d i j : ℕ) (s : List Said) → 0 < d → (o : Out (Block × Closer)) → BlockFits n (d - 1) s o → StatementFits n d s (bind o (arms h k (d - 1) i j))
  arms_fit d i j s p (bad e) f = tt
  arms_fit d i j s p (got (x, C.End m) t l) f = if_fits d i j x s t m p f
  arms_fit d i j s p (got (x, C.Else m) t l) f = else_fits d i j x s t m p f (k t l (d - 1)) (fits t l (d - 1))
  arms_fit d i j s p (got (x, C.Out) t l) f = tt

  repeat_fits : (d c : ℕ) (s : List Said) → 0 < d → (o : Out (Block × Closer)) → BlockFits n (d - 1) s o → StatementFits n d s (bind o (λ p s' m'. whole (ended p.1 (h + m')) (Statement.repeat c p.0) s' m'))
  unfolding statement_depth statement_objects statement_lines
  repeat_fits d c s p (bad e) f = tt
  repeat_fits d c s p (got (x, q) t l) f = closed_fits n d s q (h + l) (Statement.repeat c x) t l (λ one. record { deep = omega (arith, f.deep); objects = f.objects; lines = omega (arith, f.lines) })

  task_block_fits : (d : ℕ) (ds : List Declaration) (s t : List Said) → 0 < d → length ds + suc (lines_in t) ≤ lines_in s → (o : Out (Block × Closer)) → BlockFits n (d - 1) t o → StatementFits n d s (bind o (λ p s'' m''. whole (ended p.1 (h + m'')) (Statement.task ds p.0) s'' m''))
  unfolding statement_depth statement_objects statement_lines
  task_block_fits d ds s t p g (bad e) f = tt
  task_block_fits d ds s t p g (got (x, q) u l) f = closed_fits n d s q (h + l) (Statement.task ds x) u l (λ one. record { deep = omega (arith, f.deep); objects = f.objects; lines = omega (arith, f.lines) })

  task_fits : (d : ℕ) (s : List Said) → 0 < d → (o : Out (List Declaration)) → SectionFits [] s o → StatementFits n d s (bind o (λ ds s' m'. bind (k s' m' (d - 1)) (λ p s'' m''. whole (ended p.1 (h + m'')) (Statement.task ds p.0) s'' m'')))
  task_fits d s p (bad e) g = tt
  task_fits d s p (got ds t l) g = task_block_fits d ds s t p (omega arith) (k t l (d - 1)) (fits t l (d - 1))

  with_fits : (d : ℕ) (s : List Said) (o : Out (List Declaration)) → SectionFits [] s o → StatementFits n d s (bind o (λ ds s' m'. got (Statement.with ds) s' m'))
  unfolding statement_depth statement_objects statement_lines
  with_fits d s (bad e) g = tt
  with_fits d s (got ds t l) g = record { deep = omega arith; objects = omega arith; lines = omega arith }

  point_fits : (d p o : ℕ) (s : List Said) (l m : ℕ) → StatementFits n d s (cond (leb n o) (bad (NoObject (h + l))) (got (Statement.point p o) s m))
  unfolding statement_depth statement_objects statement_lines
  point_fits d p o s l m = go (leb n o) refl
    where
      go : (t : Bool) → leb n o ≡ t → StatementFits n d s (cond t (bad (NoObject (h + l))) (got (Statement.point p o) s m))
      go true e = tt
      go false e = let lt = leb-false n o e in record { deep = omega arith; objects = omega arith; lines = omega arith }

  simple_fits : (d : ℕ) (x : Statement) (s : List Said) → statement_depth x ≡ 0 → statement_objects x ≡ 0 → statement_lines x ≡ 1 → FitStatement n d s x s
  simple_fits d x s e f g = record { deep = omega arith; objects = omega arith; lines = omega arith }

  statement_fits : (x : Line) (l : ℕ) (s : List Said) (m d : ℕ) → StatementFits n d s (statement_by h n k x l s m d)
  unfolding statement_depth statement_objects statement_lines
  statement_fits (Lines.set i z) l s m d = simple_fits d (Statement.set i z) s refl refl refl
  statement_fits (Lines.add i j) l s m d = simple_fits d (Statement.add i j) s refl refl refl
  statement_fits (Lines.point p o) l s m d = point_fits d p o s l m
  statement_fits (Lines.alias p q) l s m d = simple_fits d (Statement.alias p q) s refl refl refl
  statement_fits (Lines.read i p) l s m d = simple_fits d (Statement.read i p) s refl refl refl
  statement_fits (Lines.write p i) l s m d = simple_fits d (Statement.write p i) s refl refl refl
  statement_fits (Lines.join p i) l s m d = simple_fits d (Statement.join p i) s refl refl refl
  statement_fits (Lines.if i j) l s m d = deeper_fits n d (h + l) s (bind (k s m (d - 1)) (arms h k (d - 1) i j)) (λ p. arms_fit d i j s p (k s m (d - 1)) (fits s m (d - 1)))
  statement_fits (Lines.repeat c) l s m d = deeper_fits n d (h + l) s _ (λ p. repeat_fits d c s p (k s m (d - 1)) (fits s m (d - 1)))
  statement_fits (Lines.declare a v p) l s m d = tt
  statement_fits (Lines.keyword K.Task) l s m d = deeper_fits n d (h + l) s _ (λ p. task_fits d s p (read_section h S.Task [] s m) (section_fits h S.Task [] s m))
  statement_fits (Lines.keyword K.With) l s m d = with_fits d s (read_section h S.With [] s m) (section_fits h S.With [] s m)
  statement_fits (Lines.keyword K.Else) l s m d = tt
  statement_fits (Lines.keyword K.Do) l s m d = tt
  statement_fits (Lines.keyword K.Cont) l s m d = tt
  statement_fits (Lines.keyword K.End) l s m d = tt

  rest_fits : (d l : ℕ) (v : Statement) (x : Line) (s t : List Said) → FitStatement n d s v t → (o : Out (Block × Closer)) → BlockFits n d t o → BlockFits n d (Ok x ∷ s) (bind o (λ p s' m'. got (next l v p.0, p.1) s' m'))
  unfolding depth object_bound line_count
  rest_fits d l v x s t f (bad e) g = tt
  rest_fits d l v x s t f (got (b, q) u m) g = record { deep = omega (arith, f.deep, g.deep); objects = omega (arith, f.objects, g.objects); lines = omega (arith, f.lines, g.lines) }

  followed_fits : (d l : ℕ) (x : Line) (s : List Said) (o : Out Statement) → StatementFits n d s o → BlockFits n d (Ok x ∷ s) (bind o (followed k d l))
  followed_fits d l x s (bad e) f = tt
  followed_fits d l x s (got v t m) f = rest_fits d l v x s t f (k t m d) (fits t m d)

  empty_fits : (d : ℕ) (q : Closer) (s t : List Said) → closer_lines q + lines_in t ≤ lines_in s → Fit n d s end q t
  unfolding depth object_bound line_count
  empty_fits d q s t le = record { deep = omega arith; objects = omega arith; lines = omega arith }

  closer_fits : (o : Option Closer) (x : Line) (s : List Said) (l d : ℕ) → BlockFits n d (Ok x ∷ s) (by_closer h n k o x s l d)
  closer_fits (Some (C.End m)) x s l d = empty_fits d (C.End m) (Ok x ∷ s) s (omega arith)
  closer_fits (Some (C.Else m)) x s l d = empty_fits d (C.Else m) (Ok x ∷ s) s (omega arith)
  closer_fits (Some C.Out) x s l d = empty_fits d C.Out (Ok x ∷ s) s (omega arith)
  closer_fits None x s l d = followed_fits d l x s (statement_by h n k x l s (suc l) d) (statement_fits x l s (suc l) d)

  block_fits : (s : List Said) (l d : ℕ) → BlockFits n d s (block_by h n k s l d)
  block_fits [] l d = empty_fits d C.Out [] [] (omega arith)
  block_fits (Err e ∷ s) l d = tt
  block_fits (Ok x ∷ s) l d = closer_fits (closer x (h + l)) x s l d

pub reads_fit : (h n f : ℕ) (s : List Said) (l d : ℕ) → BlockFits n d s (read_block h n f s l d)
unfolding read_block
reads_fit h n zero s l d = tt
reads_fit h n (suc f) s l d = block_fits h n (read_block h n f) (reads_fit h n f) s l d
