-- What reading the lines section answers is the first fault of its lines, each judged where it stands.
use Rattle.std.proofs.Common.{◌≡◌, ℕ, zero, suc, ◌+◌, ◌-◌, ◌<◌, ◌≤◌, cond, eqb, leb, List, [], ◌∷◌, ◌++◌, length, Some, None, Ok, Err, Option, Result, sym, refl, ap, ◌∙◌, arith}
use Rattle.std.proofs.lemmas.Bool.{cond_both, cond-true, cond-false, eqb-true, eqb-false, le-leb, lt-leb}
use Rattle.cards.specs.declared.lines.Level.TheVariants as Lv
use Rattle.cards.specs.declared.lines.Declaration.{Declaration}
use Rattle.cards.specs.Code.{Block, next, Statement}
use Rattle.loading.specs.declared.refusal.LineFault.{LineFault}
use Rattle.loading.specs.declared.refusal.LineFault.TheVariants as F
use Rattle.loading.specs.declared.line.Keyword.TheVariants as K
use Rattle.loading.specs.declared.blocks.Closer.{Closer}
use Rattle.loading.specs.declared.blocks.Closer.TheVariants as C
use Rattle.loading.specs.declared.blocks.SectionKind.{SectionKind}
use Rattle.loading.specs.declared.blocks.SectionKind.TheVariants as S
use Rattle.loading.specs.Lines as Lines
use Rattle.loading.specs.Lines.{Line, then}
use Rattle.loading.specs.Texts.{Said, section}
use Rattle.loading.specs.Blocks as Blocks
use Rattle.loading.specs.Blocks.{Out, got, bad, bind, Mark, more, close, wrong, mark, by_mark, read_section, closer, whole, Reader, arms, deeper, statement_by, followed, by_closer, block_by, read_block}
use Rattle.loading.specs.Headers.{Header}
use Rattle.loading.specs.Loading.{whole_section, header_lines, read_body}
use Rattle.loading.proofs.Fits.{section_length}
use Rattle.written.specs.Offences.{Open, if_block, block, task_section, with_section, opened, ended, other_arm, in_block, in_section, judge, at_end, first_fault, section_fault}

module _ (h n : ℕ) where
  -- the first fault of s, from line l of the section on
  abbrev Faults : List Open → List Said → ℕ → Result (Unit {0}) LineFault
  Faults os s l = first_fault n os s (h + l)

  -- a block stands innermost
  abbrev Standing : List Open → Type 0
  Standing [] = Unit {0}
  Standing (if_block ∷ os) = Unit {0}
  Standing (block ∷ os) = Unit {0}
  Standing (task_section ∷ os) = ⊥
  Standing (with_section ∷ os) = ⊥

  stands : (os : List Open) → Standing os → (x : Line) (m : ℕ) → judge n x os m ≡ in_block n x os m
  stands [] h x m = refl
  stands (if_block ∷ os) h x m = refl
  stands (block ∷ os) h x m = refl
  stands (task_section ∷ os) h x m = absurd h
  stands (with_section ∷ os) h x m = absurd h

  -- Declaration sections.

  abbrev inside : SectionKind → List Open → List Open
  inside S.Task os = task_section ∷ os
  inside S.With os = with_section ∷ os

  abbrev beyond : SectionKind → List Open → List Open
  beyond S.Task os = block ∷ os
  beyond S.With os = os

  abbrev SectionRuns : SectionKind → List Open → List Said → ℕ → Out (List Declaration) → Type 0
  SectionRuns k os s l (got es t m) = (Faults (inside k os) s l ≡ Faults (beyond k os) t m) × (length t ≤ length s)
  SectionRuns k os s l (bad e) = Faults (inside k os) s l ≡ Err e

  section_open : (k : SectionKind) (os : List Open) (m : ℕ) → at_end (inside k os) m ≡ Err (F.Open m)
  section_open S.Task os m = refl
  section_open S.With os m = refl

  -- a mark does not hang on the line's number
  marked : (x : Line) (k : SectionKind) (l m : ℕ) (os after : List Open) (p : ℕ) → in_section (mark x k l) os after p ≡ in_section (mark x k m) os after p
  marked (Lines.declare a v p) S.With l m os after q = refl
  marked (Lines.declare a Lv.Immediate p) S.Task l m os after q = refl
  marked (Lines.declare a Lv.Deferred p) S.Task l m os after q = refl
  marked (Lines.declare a Lv.Absent p) S.Task l m os after q = refl
  marked (Lines.keyword w) k l m os after q = refl
  marked (Lines.set i z) k l m os after q = refl
  marked (Lines.add i j) k l m os after q = refl
  marked (Lines.point p o) k l m os after q = refl
  marked (Lines.alias p r) k l m os after q = refl
  marked (Lines.read i p) k l m os after q = refl
  marked (Lines.write p i) k l m os after q = refl
  marked (Lines.join p i) k l m os after q = refl
  marked (Lines.if i j) k l m os after q = refl
  marked (Lines.repeat c) k l m os after q = refl

  judged : (x : Line) (k : SectionKind) (l m : ℕ) (os : List Open) → judge n x (inside k os) m ≡ in_section (mark x k l) (inside k os) (beyond k os) m
  judged x S.Task l m os = marked x S.Task m l _ _ m
  judged x S.With l m os = marked x S.With m l _ _ m

  -- the number of the next line
  onward : (os : List Open) (s : List Said) (l : ℕ) → first_fault n os s (suc (h + l)) ≡ Faults os s (suc l)
  onward os s l = ap (first_fault n os s) (omega arith)

  onward_then : (s : List Said) (l : ℕ) (j : Result (List Open) LineFault) → then j (λ after. first_fault n after s (suc (h + l))) ≡ then j (λ after. Faults after s (suc l))
  onward_then s l (Ok os) = onward os s l
  onward_then s l (Err e) = refl

  a_line : (x : Line) (os : List Open) (s : List Said) (l : ℕ) (j : Result (List Open) LineFault) → judge n x os (h + l) ≡ j → Faults os (Ok x ∷ s) l ≡ then j (λ after. first_fault n after s (suc (h + l)))
  unfolding first_fault
  a_line x os s l j e = ap (λ r. then r (λ after. first_fault n after s (suc (h + l)))) e

  passes : (x : Line) (os after : List Open) (s : List Said) (l : ℕ) → judge n x os (h + l) ≡ Ok after → Faults os (Ok x ∷ s) l ≡ Faults after s (suc l)
  passes x os after s l e = a_line x os s l (Ok after) e ∙ onward after s l

  one_more : (k : SectionKind) (os : List Open) (x : Line) (s : List Said) (l : ℕ) → Faults (inside k os) (Ok x ∷ s) l ≡ Faults (inside k os) s (suc l) → (o : Out (List Declaration)) → SectionRuns k os s (suc l) o → SectionRuns k os (Ok x ∷ s) l o
  one_more k os x s l e (got es t m) r = (e ∙ r.0, omega (arith, r.1))
  one_more k os x s l e (bad y) r = e ∙ r

  mark_runs : (k : SectionKind) (os : List Open) (ds : List Declaration) (x : Line) (s : List Said) (l : ℕ) (r : List Declaration → Out (List Declaration)) → ((es : List Declaration) → SectionRuns k os s (suc l) (r es)) → (m : Mark) → judge n x (inside k os) (h + l) ≡ in_section m (inside k os) (beyond k os) (h + l) → SectionRuns k os (Ok x ∷ s) l (by_mark m h ds s l r)
  mark_runs k os ds x s l r ih (more d) e = one_more k os x s l (passes x _ _ s l e) (r (ds ++ d ∷ [])) (ih (ds ++ d ∷ []))
  mark_runs k os ds x s l r ih close e = (passes x _ _ s l e, omega arith)
  mark_runs k os ds x s l r ih wrong e = a_line x _ s l _ e

  section_runs : (k : SectionKind) (os : List Open) (ds : List Declaration) (s : List Said) (l : ℕ) → SectionRuns k os s l (read_section h k ds s l)
  unfolding read_section first_fault
  section_runs k os ds [] l = section_open k os (h + l)
  section_runs k os ds (Err e ∷ s) l = refl
  section_runs k os ds (Ok x ∷ s) l = mark_runs k os ds x s l (λ es. read_section h k es s (suc l)) (λ es. section_runs k os es s (suc l)) (mark x k l) (judged x k l (h + l) os)

  -- Blocks and statements.

  -- the rest, after what ends a block
  abbrev after_closer : Closer → List Open → List Said → ℕ → Result (Unit {0}) LineFault
  after_closer (C.End e) os t m = then (ended os e) (λ after. Faults after t m)
  after_closer (C.Else e) os t m = then (other_arm os e) (λ after. Faults after t m)
  after_closer C.Out os t m = at_end os (h + m)

  abbrev BlockRuns : List Open → List Said → ℕ → Out (Block × Closer) → Type 0
  BlockRuns os s l (got (b, q) t m) = (Faults os s l ≡ after_closer q os t m) × (length t ≤ length s)
  BlockRuns os s l (bad e) = Faults os s l ≡ Err e

  abbrev StatementRuns : List Open → Line → List Said → ℕ → Out Statement → Type 0
  StatementRuns os x s l (got v t m) = (Faults os (Ok x ∷ s) l ≡ Faults os t m) × (length t ≤ length s)
  StatementRuns os x s l (bad e) = Faults os (Ok x ∷ s) l ≡ Err e

  -- a block of a statement that `end` ends
  closed_runs : (os : List Open) (x : Line) (s : List Said) (l : ℕ) (u : List Said) (p : ℕ) (make : Block → Statement) → length u ≤ length s → Faults os (Ok x ∷ s) l ≡ Faults (block ∷ os) u p → (o : Out (Block × Closer)) → BlockRuns (block ∷ os) u p o → StatementRuns os x s l (bind o (λ q t m. whole (Blocks.ended q.1 (h + m)) (make q.0) t m))
  closed_runs os x s l u p make le e (got (y, C.End f) t m) r = (e ∙ r.0, omega (arith, r.1))
  closed_runs os x s l u p make le e (got (y, C.Else f) t m) r = e ∙ r.0
  closed_runs os x s l u p make le e (got (y, C.Out) t m) r = e ∙ r.0
  closed_runs os x s l u p make le e (bad y) r = e ∙ r

  module _ (g : ℕ) (k : Reader) (runs : (os : List Open) → Standing os → (s : List Said) (l d : ℕ) → d + length os ≡ 8 → length s < g → BlockRuns os s l (k s l d)) where
    -- a line that opens a block or a section one deeper
    deeper_runs : (os : List Open) → Standing os → (x : Line) (s : List Said) (l d : ℕ) → d + length os ≡ 8 → (new : Open) → in_block n x os (h + l) ≡ opened new os (h + l) → (o : Out Statement) → (0 < d → Faults os (Ok x ∷ s) l ≡ Faults (new ∷ os) s (suc l) → StatementRuns os x s l o) → StatementRuns os x s l (deeper d (h + l) o)
    deeper_runs os st x s l d full new is o r =
        cond_both (eqb d 0) (bad (F.TooDeep (h + l))) o (StatementRuns os x s l)
        (λ e. let z = eqb-true d 0 e in a_line x os s l _ (stands os st x (h + l) ∙ is ∙ cond-true (leb 8 (length os)) _ _ (le-leb 8 (length os) (omega arith))))
        (λ e. let z = eqb-false d 0 e in r (omega arith) (passes x os (new ∷ os) s l (stands os st x (h + l) ∙ is ∙ cond-false (leb 8 (length os)) _ _ (lt-leb 8 (length os) (omega arith)))))

    arms_run : (os : List Open) (i j : ℕ) (s : List Said) (l d : ℕ) → d + suc (length os) ≡ 8 → length s < g → Faults os (Ok (Lines.if i j) ∷ s) l ≡ Faults (if_block ∷ os) s (suc l) → (o : Out (Block × Closer)) → BlockRuns (if_block ∷ os) s (suc l) o → StatementRuns os (Lines.if i j) s l (bind o (arms h k d i j))
    arms_run os i j s l d full few e (got (x, C.End f) t m) r = (e ∙ r.0, r.1)
    arms_run os i j s l d full few e (got (x, C.Else f) t m) r = closed_runs os (Lines.if i j) s l t m (Statement.if_else i j x) r.1 (e ∙ r.0) (k t m d) (runs (block ∷ os) tt t m d full (omega (arith, r.1)))
    arms_run os i j s l d full few e (got (x, C.Out) t m) r = e ∙ r.0
    arms_run os i j s l d full few e (bad y) r = e ∙ r

    task_runs : (os : List Open) (s : List Said) (l d : ℕ) → d + suc (length os) ≡ 8 → length s < g → Faults os (Ok (Lines.keyword K.Task) ∷ s) l ≡ Faults (task_section ∷ os) s (suc l) → (o : Out (List Declaration)) → SectionRuns S.Task os s (suc l) o → StatementRuns os (Lines.keyword K.Task) s l (bind o (λ ds s' m'. bind (k s' m' d) (λ p s'' m''. whole (Blocks.ended p.1 (h + m'')) (Statement.task ds p.0) s'' m'')))
    task_runs os s l d full few e (got ds t m) r = closed_runs os (Lines.keyword K.Task) s l t m (Statement.task ds) r.1 (e ∙ r.0) (k t m d) (runs (block ∷ os) tt t m d full (omega (arith, r.1)))
    task_runs os s l d full few e (bad y) r = e ∙ r

    with_runs : (os : List Open) (s : List Said) (l : ℕ) → Faults os (Ok (Lines.keyword K.With) ∷ s) l ≡ Faults (with_section ∷ os) s (suc l) → (o : Out (List Declaration)) → SectionRuns S.With os s (suc l) o → StatementRuns os (Lines.keyword K.With) s l (bind o (λ ds s' m'. got (Statement.with ds) s' m'))
    with_runs os s l e (got ds t m) r = (e ∙ r.0, r.1)
    with_runs os s l e (bad y) r = e ∙ r

    module _ (os : List Open) (st : Standing os) (s : List Said) (l d : ℕ) (full : d + length os ≡ 8) (few : length s < g) where
      plain_runs : (x : Line) (v : Statement) → in_block n x os (h + l) ≡ Ok os → StatementRuns os x s l (got v s (suc l))
      plain_runs x v e = (passes x os os s l (stands os st x (h + l) ∙ e), omega arith)

      wrong_runs : (x : Line) → in_block n x os (h + l) ≡ Err (F.Misplaced (h + l)) → StatementRuns os x s l (bad (F.Misplaced (h + l)))
      wrong_runs x e = a_line x os s l _ (stands os st x (h + l) ∙ e)

      point_runs : (p o : ℕ) → StatementRuns os (Lines.point p o) s l (cond (leb n o) (bad (F.NoObject (h + l))) (got (Statement.point p o) s (suc l)))
      point_runs p o =
          cond_both (leb n o) (bad (F.NoObject (h + l))) (got (Statement.point p o) s (suc l)) (StatementRuns os (Lines.point p o) s l)
          (λ e. a_line (Lines.point p o) os s l _ (stands os st (Lines.point p o) (h + l) ∙ cond-true (leb n o) _ _ e))
          (λ e. plain_runs (Lines.point p o) (Statement.point p o) (cond-false (leb n o) _ _ e))

      -- a line that ends a block, or begins a statement
      abbrev LineRuns : Line → Option Closer → Type 0
      LineRuns x (Some q) = Faults os (Ok x ∷ s) l ≡ after_closer q os s (suc l)
      LineRuns x None = StatementRuns os x s l (statement_by h n k x l s (suc l) d)

      line_runs : (x : Line) → LineRuns x (closer x (h + l))
      line_runs (Lines.set i z) = plain_runs (Lines.set i z) (Statement.set i z) refl
      line_runs (Lines.add i j) = plain_runs (Lines.add i j) (Statement.add i j) refl
      line_runs (Lines.point p o) = point_runs p o
      line_runs (Lines.alias p q) = plain_runs (Lines.alias p q) (Statement.alias p q) refl
      line_runs (Lines.read i p) = plain_runs (Lines.read i p) (Statement.read i p) refl
      line_runs (Lines.write p i) = plain_runs (Lines.write p i) (Statement.write p i) refl
      line_runs (Lines.join p i) = plain_runs (Lines.join p i) (Statement.join p i) refl
      line_runs (Lines.if i j) = deeper_runs os st (Lines.if i j) s l d full if_block refl _ (λ pos e. arms_run os i j s l (d - 1) (omega arith) few e (k s (suc l) (d - 1)) (runs (if_block ∷ os) tt s (suc l) (d - 1) (omega arith) few))
      line_runs (Lines.repeat a) = deeper_runs os st (Lines.repeat a) s l d full block refl _ (λ pos e. closed_runs os (Lines.repeat a) s l s (suc l) (Statement.repeat a) (omega arith) e (k s (suc l) (d - 1)) (runs (block ∷ os) tt s (suc l) (d - 1) (omega arith) few))
      line_runs (Lines.declare a v p) = wrong_runs (Lines.declare a v p) refl
      line_runs (Lines.keyword K.Task) = deeper_runs os st (Lines.keyword K.Task) s l d full task_section refl _ (λ pos e. task_runs os s l (d - 1) (omega arith) few e (read_section h S.Task [] s (suc l)) (section_runs S.Task os [] s (suc l)))
      line_runs (Lines.keyword K.With) = with_runs os s l (passes (Lines.keyword K.With) os (with_section ∷ os) s l (stands os st (Lines.keyword K.With) (h + l))) (read_section h S.With [] s (suc l)) (section_runs S.With os [] s (suc l))
      line_runs (Lines.keyword K.Else) = a_line (Lines.keyword K.Else) os s l (other_arm os (h + l)) (stands os st (Lines.keyword K.Else) (h + l)) ∙ onward_then s l (other_arm os (h + l))
      line_runs (Lines.keyword K.Do) = wrong_runs (Lines.keyword K.Do) refl
      line_runs (Lines.keyword K.Cont) = wrong_runs (Lines.keyword K.Cont) refl
      line_runs (Lines.keyword K.End) = a_line (Lines.keyword K.End) os s l (ended os (h + l)) (stands os st (Lines.keyword K.End) (h + l)) ∙ onward_then s l (ended os (h + l))

      rest_runs : (x : Line) (v : Statement) (t : List Said) (m : ℕ) → StatementRuns os x s l (got v t m) → (o : Out (Block × Closer)) → BlockRuns os t m o → BlockRuns os (Ok x ∷ s) l (bind o (λ p s' m'. got (next l v p.0, p.1) s' m'))
      rest_runs x v t m e (got (b, C.End f) u p) r = (e.0 ∙ r.0, omega (arith, e.1, r.1))
      rest_runs x v t m e (got (b, C.Else f) u p) r = (e.0 ∙ r.0, omega (arith, e.1, r.1))
      rest_runs x v t m e (got (b, C.Out) u p) r = (e.0 ∙ r.0, omega (arith, e.1, r.1))
      rest_runs x v t m e (bad y) r = e.0 ∙ r

      followed_runs : (x : Line) (o : Out Statement) → StatementRuns os x s l o → BlockRuns os (Ok x ∷ s) l (bind o (followed k d l))
      followed_runs x (got v t m) e = rest_runs x v t m e (k t m d) (runs os st t m d full (omega (arith, e.1)))
      followed_runs x (bad y) e = e

      closer_runs : (o : Option Closer) (x : Line) → LineRuns x o → BlockRuns os (Ok x ∷ s) l (by_closer h n k o x s l d)
      closer_runs (Some (C.End f)) x e = (e, omega arith)
      closer_runs (Some (C.Else f)) x e = (e, omega arith)
      closer_runs (Some C.Out) x e = (e, omega arith)
      closer_runs None x e = followed_runs x (statement_by h n k x l s (suc l) d) e

    block_runs : (os : List Open) → Standing os → (s : List Said) (l d : ℕ) → d + length os ≡ 8 → length s < suc g → BlockRuns os s l (block_by h n k s l d)
    unfolding first_fault
    block_runs os st [] l d full few = (refl, omega arith)
    block_runs os st (Err e ∷ s) l d full few = refl
    block_runs os st (Ok x ∷ s) l d full few = closer_runs os st s l d full (omega arith) (closer x (h + l)) x (line_runs os st s l d full (omega arith) x)

  reads_run : (f : ℕ) (os : List Open) → Standing os → (s : List Said) (l d : ℕ) → d + length os ≡ 8 → length s < f → BlockRuns os s l (read_block h n f s l d)
  unfolding read_block
  reads_run zero os st s l d full few = absurd (omega arith)
  reads_run (suc f) os st s l d full few = block_runs f (read_block h n f) (reads_run f) os st s l d full few

-- The whole section.

abbrev pub verdict : Result Block LineFault → Result (Unit {0}) LineFault
verdict (Ok b) = Ok tt
verdict (Err e) = Err e

pub body_fault : (h : Header) (s : List ℕ) → verdict (read_body h s) ≡ section_fault h s
unfolding read_body
body_fault h s = sym (go (read_block (header_lines h) (length h.words) (h.lines + 2) (section h.lines s (header_lines h + 1)) 1 8) (reads_run (header_lines h) (length h.words) (h.lines + 2) [] tt (section h.lines s (header_lines h + 1)) 1 8 (omega arith) (omega (arith, section_length h.lines s (header_lines h + 1)))))
  where
    go : (o : Out (Block × Closer)) → BlockRuns (header_lines h) (length h.words) [] (section h.lines s (header_lines h + 1)) 1 o → section_fault h s ≡ verdict (whole_section o)
    go (bad e) r = r
    go (got (b, C.End e) t m) r = r.0
    go (got (b, C.Else e) t m) r = r.0
    go (got (b, C.Out) t m) r = r.0
