-- An accepted text is the written form of its card.
use Rattle.std.proofs.Common.{◌≡◌, ℕ, zero, suc, ◌+◌, ◌-◌, ◌<◌, ◌≤◌, cond, eqb, ltb, leb, List, [], ◌∷◌, ◌++◌, length, IfOk, Some, None, Ok, Err, Option, Result, sym, refl, ap, ◌∙◌, subst, arith}
use Rattle.std.specs.List.{AllByRecursion}
use Rattle.std.proofs.lemmas.List.{append-nil, append_assoc}
use Rattle.std.proofs.lemmas.Bool.{cond_both, ltb-true, ltb-false}
use Rattle.cards.specs.declared.lines.Access.{Access}
use Rattle.cards.specs.declared.lines.Level.{Level}
use Rattle.cards.specs.declared.lines.Level.TheVariants.{Absent, Deferred, Immediate}
use Rattle.cards.specs.declared.lines.Declaration.{Declaration}
use Rattle.cards.specs.Code.{Block, end, next, Statement, Card}
use Rattle.cards.specs.Bounds.{line_count, statement_lines, depth, object_bound, card_tasks, card_steps}
use Rattle.loading.specs.declared.refusal.LineFault.{LineFault}
use Rattle.loading.specs.declared.refusal.LineFault.TheVariants.{TooDeep, NoObject}
use Rattle.loading.specs.declared.refusal.LoadRefusal.TheVariants.{TooLong, Line, TooManyTasks, TooManySteps, Memory}
use Rattle.loading.specs.declared.line.Keyword.{Keyword}
use Rattle.loading.specs.declared.line.Keyword.TheVariants as K
use Rattle.loading.specs.declared.blocks.Closer.{Closer}
use Rattle.loading.specs.declared.blocks.Closer.TheVariants as C
use Rattle.loading.specs.declared.blocks.SectionKind.{SectionKind}
use Rattle.loading.specs.declared.blocks.SectionKind.TheVariants as S
use Rattle.loading.specs.Lines as Lines
use Rattle.loading.specs.Texts.{Said, section}
use Rattle.loading.specs.Blocks.{Out, got, bad, bind, Mark, more, close, wrong, declared_in, ends_section, mark, by_mark, read_section, closer, ended, whole, Reader, arms, deeper, statement_by, followed, by_closer, block_by, read_block}
use Rattle.loading.specs.Headers.{Header, read_header}
use Rattle.loading.specs.Loading.{Reading, accepted, refused, card, bounded, whole_section, header_lines, read_body, after_body, after_header, reading}
use Rattle.loading.proofs.Fits.{BlockFits, reads_fit}
use Rattle.written.specs.Written.{opening, declaration_lines, block_lines, inner_lines, lines_text, header_text, card_text}
use Rattle.written.specs.Formed.{FitsLine, NumberedDeclarations, Numbered, NumberedInside, WellFormed}
use Rattle.written.specs.Laws.{Writes}
use Rattle.written.proofs.Sections as Sections
use Rattle.written.proofs.Sections.{oks, section_end, Allowed, block_length}
use Rattle.written.proofs.Headers.{HeaderBack, header_back}

-- Declaration sections.

-- the declarations es are ds and those of the lines s from line l on, and t are the lines left, from line m on
record Section (k : SectionKind) (ds : List Declaration) (s : List Said) (l : ℕ) (es : List Declaration) (t : List Said) (m : ℕ) : Type 0 where
  some : List Declaration
  after : es ≡ ds ++ some
  lines : (more : List Lines.Line) → t ≡ oks more → s ≡ oks (declaration_lines some (section_end k ∷ more))
  numbers : NumberedDeclarations some l
  allowed : AllByRecursion (Allowed k) some
  number : m ≡ l + suc (length some)

abbrev SectionBack : SectionKind → List Declaration → List Said → ℕ → Out (List Declaration) → Type 0
SectionBack k ds s l (got es t m) = Section k ds s l es t m
SectionBack k ds s l (bad e) = Unit {0}

-- what a mark says of its line
abbrev MarkBack : SectionKind → Lines.Line → ℕ → Mark → Type 0
MarkBack k x l (more d) = (x ≡ Lines.declare d.access d.level d.pointer) × (d.line ≡ l) × Allowed k d
MarkBack k x l close = x ≡ section_end k
MarkBack k x l wrong = Unit {0}

declared_back : (k : SectionKind) (a : Access) (v : Level) (p l : ℕ) → MarkBack k (Lines.declare a v p) l (declared_in k l a v p)
declared_back S.With a v p l = (refl, refl, tt)
declared_back S.Task a Immediate p l = (refl, refl, tt)
declared_back S.Task a Deferred p l = (refl, refl, tt)
declared_back S.Task a Absent p l = tt

keyword_back : (w : Keyword) (k : SectionKind) (l : ℕ) → MarkBack k (Lines.keyword w) l (ends_section w k)
keyword_back K.Do S.Task l = refl
keyword_back K.Do S.With l = tt
keyword_back K.Cont S.Task l = tt
keyword_back K.Cont S.With l = refl
keyword_back K.Else k l = tt
keyword_back K.Task k l = tt
keyword_back K.With k l = tt
keyword_back K.End k l = tt

mark_back : (x : Lines.Line) (k : SectionKind) (l : ℕ) → MarkBack k x l (mark x k l)
mark_back (Lines.declare a v p) k l = declared_back k a v p l
mark_back (Lines.keyword w) k l = keyword_back w k l
mark_back (Lines.set i z) k l = tt
mark_back (Lines.add i j) k l = tt
mark_back (Lines.point p o) k l = tt
mark_back (Lines.alias p q) k l = tt
mark_back (Lines.read i p) k l = tt
mark_back (Lines.write p i) k l = tt
mark_back (Lines.join p i) k l = tt
mark_back (Lines.if i j) k l = tt
mark_back (Lines.repeat c) k l = tt

one_more : (k : SectionKind) (ds : List Declaration) (d : Declaration) (x : Lines.Line) (s : List Said) (l : ℕ) → MarkBack k x l (more d) → (o : Out (List Declaration)) → SectionBack k (ds ++ d ∷ []) s (suc l) o → SectionBack k ds (Ok x ∷ s) l o
one_more k ds d x s l m (bad e) b = tt
one_more k ds d x s l m (got es t n) b = record {
  some = d ∷ b.some;
  after = b.after ∙ append_assoc ds (d ∷ []) b.some;
  lines = λ r e. ap (λ y. Ok y ∷ s) m.0 ∙ ap (λ u. Ok (Lines.declare d.access d.level d.pointer) ∷ u) (b.lines r e);
  numbers = (m.1, subst (NumberedDeclarations b.some) (omega arith) b.numbers);
  allowed = (m.2, b.allowed);
  number = omega (arith, b.number);
}

marked_back : (h : ℕ) (k : SectionKind) (ds : List Declaration) (x : Lines.Line) (s : List Said) (l : ℕ) (r : List Declaration → Out (List Declaration)) → ((es : List Declaration) → SectionBack k es s (suc l) (r es)) → (m : Mark) → MarkBack k x l m → SectionBack k ds (Ok x ∷ s) l (by_mark m h ds s l r)
marked_back h k ds x s l r ih (more d) b = one_more k ds d x s l b (r (ds ++ d ∷ [])) (ih (ds ++ d ∷ []))
marked_back h k ds x s l r ih close b = record { some = []; after = sym (append-nil ds); lines = λ more e. ap (λ y. Ok y ∷ s) b ∙ ap (λ u. Ok (section_end k) ∷ u) e; numbers = tt; allowed = tt; number = omega arith }
marked_back h k ds x s l r ih wrong b = tt

section_back : (h : ℕ) (k : SectionKind) (ds : List Declaration) (s : List Said) (l : ℕ) → SectionBack k ds s l (read_section h k ds s l)
unfolding read_section
section_back h k ds [] l = tt
section_back h k ds (Err e ∷ s) l = tt
section_back h k ds (Ok x ∷ s) l = marked_back h k ds x s l (λ es. read_section h k es s (suc l)) (λ es. section_back h k es s (suc l)) (mark x k l) (mark_back x k l)

-- Blocks and statements.

-- the line that ends a block, before more lines
abbrev closing : Closer → List Lines.Line → List Lines.Line
closing (C.End n) r = Lines.keyword K.End ∷ r
closing (C.Else n) r = Lines.keyword K.Else ∷ r
closing C.Out r = r

abbrev closing_lines : Closer → ℕ
closing_lines (C.End n) = 1
closing_lines (C.Else n) = 1
closing_lines C.Out = 0

-- the end of the section leaves no line
abbrev Left : Closer → List Said → Type 0
Left (C.End n) t = Unit {0}
Left (C.Else n) t = Unit {0}
Left C.Out t = t ≡ []

-- the lines s from line l on are those of b, the one that ends it and t, which is from line m on
record BlockIs (s : List Said) (l : ℕ) (b : Block) (q : Closer) (t : List Said) (m : ℕ) : Type 0 where
  lines : (r : List Lines.Line) → t ≡ oks r → s ≡ oks (block_lines b (closing q r))
  numbers : Numbered b l
  number : m ≡ l + (line_count b + closing_lines q)
  left : Left q t

abbrev BlockBack : List Said → ℕ → Out (Block × Closer) → Type 0
BlockBack s l (got (b, q) t m) = BlockIs s l b q t m
BlockBack s l (bad e) = Unit {0}

-- the line x, which is number l, and the lines s after it are those of v and t, which is from line m on
record StatementIs (x : Lines.Line) (s : List Said) (l : ℕ) (v : Statement) (t : List Said) (m : ℕ) : Type 0 where
  opens : x ≡ opening v
  lines : (r : List Lines.Line) → t ≡ oks r → s ≡ oks (inner_lines v r)
  numbers : NumberedInside v l
  number : m ≡ l + statement_lines v

abbrev StatementBack : Lines.Line → List Said → ℕ → Out Statement → Type 0
StatementBack x s l (got v t m) = StatementIs x s l v t m
StatementBack x s l (bad e) = Unit {0}

-- the line x is the one that ends a block
abbrev Closes : Lines.Line → Option Closer → Type 0
Closes x (Some q) = x ∷ [] ≡ closing q []
Closes x None = Unit {0}

closes : (x : Lines.Line) (n : ℕ) → Closes x (closer x n)
closes (Lines.keyword K.End) n = refl
closes (Lines.keyword K.Else) n = refl
closes (Lines.keyword K.Task) n = tt
closes (Lines.keyword K.Do) n = tt
closes (Lines.keyword K.With) n = tt
closes (Lines.keyword K.Cont) n = tt
closes (Lines.declare a v p) n = tt
closes (Lines.set i z) n = tt
closes (Lines.add i j) n = tt
closes (Lines.point p o) n = tt
closes (Lines.alias p q) n = tt
closes (Lines.read i p) n = tt
closes (Lines.write p i) n = tt
closes (Lines.join p i) n = tt
closes (Lines.if i j) n = tt
closes (Lines.repeat c) n = tt

deeper_back : (x : Lines.Line) (s : List Said) (l d n : ℕ) (o : Out Statement) → StatementBack x s l o → StatementBack x s l (deeper d n o)
deeper_back x s l d n o b = cond_both (eqb d 0) (bad (TooDeep n)) o (StatementBack x s l) (λ _. tt) (λ _. b)

-- a statement's block that `end` ends
closed_back : (x : Lines.Line) (s : List Said) (l : ℕ) (q : Closer) (n : ℕ) (v : Statement) (t : List Said) (m : ℕ) → ((e : ℕ) → q ≡ C.End e → StatementIs x s l v t m) → StatementBack x s l (whole (ended q n) v t m)
closed_back x s l (C.End e) n v t m b = b e refl
closed_back x s l (C.Else e) n v t m b = tt
closed_back x s l C.Out n v t m b = tt

module _ (h n : ℕ) (k : Reader) (honest : (s : List Said) (l d : ℕ) → BlockBack s l (k s l d)) where
  if_back : (i j : ℕ) (s : List Said) (l : ℕ) (x : Block) (e : ℕ) (t : List Said) (m : ℕ) → BlockIs s (suc l) x (C.End e) t m → StatementIs (Lines.if i j) s l (Statement.if i j x) t m
  unfolding inner_lines NumberedInside statement_lines
  if_back i j s l x e t m b = record { opens = refl; lines = b.lines; numbers = subst (Numbered x) (omega arith) b.numbers; number = omega (arith, b.number) }

  if_else_back : (i j : ℕ) (s : List Said) (l : ℕ) (x : Block) (e : ℕ) (t : List Said) (m : ℕ) → BlockIs s (suc l) x (C.Else e) t m → (y : Block) (f : ℕ) (u : List Said) (o : ℕ) → BlockIs t m y (C.End f) u o → StatementIs (Lines.if i j) s l (Statement.if_else i j x y) u o
  unfolding inner_lines NumberedInside statement_lines
  if_else_back i j s l x e t m b y f u o c = record {
    opens = refl;
    lines = λ r z. b.lines _ (c.lines r z);
    numbers = (subst (Numbered x) (omega arith) b.numbers, subst (Numbered y) (omega (arith, b.number)) c.numbers);
    number = omega (arith, b.number, c.number);
  }

  else_back : (i j : ℕ) (s : List Said) (l : ℕ) (x : Block) (e : ℕ) (t : List Said) (m : ℕ) → BlockIs s (suc l) x (C.Else e) t m → (o : Out (Block × Closer)) → BlockBack t m o → StatementBack (Lines.if i j) s l (bind o (λ q s' l'. whole (ended q.1 (h + l')) (Statement.if_else i j x q.0) s' l'))
  else_back i j s l x e t m b (bad z) c = tt
  else_back i j s l x e t m b (got (y, q) u o) c = closed_back (Lines.if i j) s l q (h + o) (Statement.if_else i j x y) u o (λ f is. if_else_back i j s l x e t m b y f u o (subst (λ z. BlockIs t m y z u o) is c))

  arms_back : (i j : ℕ) (s : List Said) (l d : ℕ) (o : Out (Block × Closer)) → BlockBack s (suc l) o → StatementBack (Lines.if i j) s l (bind o (arms h k d i j))
  arms_back i j s l d (bad z) b = tt
  arms_back i j s l d (got (x, C.End e) t m) b = if_back i j s l x e t m b
  arms_back i j s l d (got (x, C.Else e) t m) b = else_back i j s l x e t m b (k t m d) (honest t m d)
  arms_back i j s l d (got (x, C.Out) t m) b = tt

  repeat_is : (c : ℕ) (s : List Said) (l : ℕ) (x : Block) (e : ℕ) (t : List Said) (m : ℕ) → BlockIs s (suc l) x (C.End e) t m → StatementIs (Lines.repeat c) s l (Statement.repeat c x) t m
  unfolding inner_lines NumberedInside statement_lines
  repeat_is c s l x e t m b = record { opens = refl; lines = b.lines; numbers = subst (Numbered x) (omega arith) b.numbers; number = omega (arith, b.number) }

  repeat_back : (c : ℕ) (s : List Said) (l : ℕ) (o : Out (Block × Closer)) → BlockBack s (suc l) o → StatementBack (Lines.repeat c) s l (bind o (λ p s' m'. whole (ended p.1 (h + m')) (Statement.repeat c p.0) s' m'))
  repeat_back c s l (bad z) b = tt
  repeat_back c s l (got (x, q) t m) b = closed_back (Lines.repeat c) s l q (h + m) (Statement.repeat c x) t m (λ e is. repeat_is c s l x e t m (subst (λ z. BlockIs s (suc l) x z t m) is b))

  task_is : (s : List Said) (l : ℕ) (ds : List Declaration) (t : List Said) (m : ℕ) → Section S.Task [] s (suc l) ds t m → (x : Block) (e : ℕ) (u : List Said) (o : ℕ) → BlockIs t m x (C.End e) u o → StatementIs (Lines.keyword K.Task) s l (Statement.task ds x) u o
  unfolding inner_lines NumberedInside statement_lines
  task_is s l ds t m c x e u o b = rw c.after (record {
    opens = refl;
    lines = λ r z. c.lines _ (b.lines r z);
    numbers = (c.allowed, subst (NumberedDeclarations c.some) (omega arith) c.numbers, subst (Numbered x) (omega (arith, c.number)) b.numbers);
    number = omega (arith, c.number, b.number);
  })

  task_block_back : (s : List Said) (l : ℕ) (ds : List Declaration) (t : List Said) (m : ℕ) → Section S.Task [] s (suc l) ds t m → (o : Out (Block × Closer)) → BlockBack t m o → StatementBack (Lines.keyword K.Task) s l (bind o (λ p s'' m''. whole (ended p.1 (h + m'')) (Statement.task ds p.0) s'' m''))
  task_block_back s l ds t m c (bad z) b = tt
  task_block_back s l ds t m c (got (x, q) u o) b = closed_back (Lines.keyword K.Task) s l q (h + o) (Statement.task ds x) u o (λ e is. task_is s l ds t m c x e u o (subst (λ z. BlockIs t m x z u o) is b))

  task_back : (s : List Said) (l d : ℕ) (o : Out (List Declaration)) → SectionBack S.Task [] s (suc l) o → StatementBack (Lines.keyword K.Task) s l (bind o (λ ds s' m'. bind (k s' m' d) (λ p s'' m''. whole (ended p.1 (h + m'')) (Statement.task ds p.0) s'' m'')))
  task_back s l d (bad z) c = tt
  task_back s l d (got ds t m) c = task_block_back s l ds t m c (k t m d) (honest t m d)

  with_back : (s : List Said) (l : ℕ) (o : Out (List Declaration)) → SectionBack S.With [] s (suc l) o → StatementBack (Lines.keyword K.With) s l (bind o (λ ds s' m'. got (Statement.with ds) s' m'))
  unfolding inner_lines NumberedInside statement_lines
  with_back s l (bad z) c = tt
  with_back s l (got ds t m) c = rw c.after (record { opens = refl; lines = c.lines; numbers = subst (NumberedDeclarations c.some) (omega arith) c.numbers; number = omega (arith, c.number) })

  point_back : (p o : ℕ) (s : List Said) (l : ℕ) → StatementBack (Lines.point p o) s l (cond (leb n o) (bad (NoObject (h + l))) (got (Statement.point p o) s (suc l)))
  unfolding inner_lines NumberedInside statement_lines
  point_back p o s l = cond_both (leb n o) (bad (NoObject (h + l))) (got (Statement.point p o) s (suc l)) (StatementBack (Lines.point p o) s l) (λ _. tt) (λ _. record { opens = refl; lines = λ r z. z; numbers = tt; number = omega arith })

  statement_back : (x : Lines.Line) (l : ℕ) (s : List Said) (d : ℕ) → StatementBack x s l (statement_by h n k x l s (suc l) d)
  unfolding inner_lines NumberedInside statement_lines
  statement_back (Lines.set i z) l s d = record { opens = refl; lines = λ r z. z; numbers = tt; number = omega arith }
  statement_back (Lines.add i j) l s d = record { opens = refl; lines = λ r z. z; numbers = tt; number = omega arith }
  statement_back (Lines.point p o) l s d = point_back p o s l
  statement_back (Lines.alias p q) l s d = record { opens = refl; lines = λ r z. z; numbers = tt; number = omega arith }
  statement_back (Lines.read i p) l s d = record { opens = refl; lines = λ r z. z; numbers = tt; number = omega arith }
  statement_back (Lines.write p i) l s d = record { opens = refl; lines = λ r z. z; numbers = tt; number = omega arith }
  statement_back (Lines.join p i) l s d = record { opens = refl; lines = λ r z. z; numbers = tt; number = omega arith }
  statement_back (Lines.if i j) l s d = deeper_back _ s l d (h + l) _ (arms_back i j s l (d - 1) (k s (suc l) (d - 1)) (honest s (suc l) (d - 1)))
  statement_back (Lines.repeat c) l s d = deeper_back _ s l d (h + l) _ (repeat_back c s l (k s (suc l) (d - 1)) (honest s (suc l) (d - 1)))
  statement_back (Lines.declare a v p) l s d = tt
  statement_back (Lines.keyword K.Task) l s d = deeper_back _ s l d (h + l) _ (task_back s l (d - 1) (read_section h S.Task [] s (suc l)) (section_back h S.Task [] s (suc l)))
  statement_back (Lines.keyword K.With) l s d = with_back s l (read_section h S.With [] s (suc l)) (section_back h S.With [] s (suc l))
  statement_back (Lines.keyword K.Else) l s d = tt
  statement_back (Lines.keyword K.Do) l s d = tt
  statement_back (Lines.keyword K.Cont) l s d = tt
  statement_back (Lines.keyword K.End) l s d = tt

  rest_back : (x : Lines.Line) (s : List Said) (l : ℕ) (v : Statement) (t : List Said) (m : ℕ) → StatementIs x s l v t m → (o : Out (Block × Closer)) → BlockBack t m o → BlockBack (Ok x ∷ s) l (bind o (λ p s' m'. got (next l v p.0, p.1) s' m'))
  unfolding block_lines Numbered line_count
  rest_back x s l v t m st (bad z) b = tt
  rest_back x s l v t m st (got (y, q) u o) b = record {
    lines = λ r z. ap (λ a. Ok a ∷ s) st.opens ∙ ap (λ a. Ok (opening v) ∷ a) (st.lines _ (b.lines r z));
    numbers = (refl, st.numbers, subst (Numbered y) st.number b.numbers);
    number = omega (arith, st.number, b.number);
    left = b.left;
  }

  followed_back : (x : Lines.Line) (s : List Said) (l d : ℕ) (o : Out Statement) → StatementBack x s l o → BlockBack (Ok x ∷ s) l (bind o (followed k d l))
  followed_back x s l d (bad z) st = tt
  followed_back x s l d (got v t m) st = rest_back x s l v t m st (k t m d) (honest t m d)

  ends_back : (x : Lines.Line) (s : List Said) (l : ℕ) (q : Closer) → x ∷ [] ≡ closing q [] → BlockIs (Ok x ∷ s) l end q s (suc l)
  unfolding block_lines Numbered line_count
  ends_back x s l (C.End e) is = let same : x ≡ Lines.keyword K.End = cc in record { lines = λ r z. ap (λ a. Ok a ∷ s) same ∙ ap (λ a. Ok (Lines.keyword K.End) ∷ a) z; numbers = tt; number = omega arith; left = tt }
  ends_back x s l (C.Else e) is = let same : x ≡ Lines.keyword K.Else = cc in record { lines = λ r z. ap (λ a. Ok a ∷ s) same ∙ ap (λ a. Ok (Lines.keyword K.Else) ∷ a) z; numbers = tt; number = omega arith; left = tt }
  ends_back x s l C.Out is = cc

  closer_back : (o : Option Closer) (x : Lines.Line) (s : List Said) (l d : ℕ) → Closes x o → BlockBack (Ok x ∷ s) l (by_closer h n k o x s l d)
  closer_back (Some q) x s l d is = ends_back x s l q is
  closer_back None x s l d is = followed_back x s l d (statement_by h n k x l s (suc l) d) (statement_back x l s d)

  block_back : (s : List Said) (l d : ℕ) → BlockBack s l (block_by h n k s l d)
  unfolding block_lines Numbered line_count
  block_back [] l d = record { lines = λ r z. z; numbers = tt; number = omega arith; left = refl }
  block_back (Err e ∷ s) l d = tt
  block_back (Ok x ∷ s) l d = closer_back (closer x (h + l)) x s l d (closes x (h + l))

reads_back : (h n f : ℕ) (s : List Said) (l d : ℕ) → BlockBack s l (read_block h n f s l d)
unfolding read_block
reads_back h n zero s l d = tt
reads_back h n (suc f) s l d = block_back h n (read_block h n f) (reads_back h n f) s l d

-- The whole text.

record Body (h : Header) (t : List ℕ) (b : Block) : Type 0 where
  text : t ≡ lines_text (block_lines b [])
  count : line_count b ≡ h.lines
  names : AllByRecursion FitsLine (block_lines b [])
  numbers : Numbered b 1
  deep : depth b ≤ 8
  pointed : object_bound b ≤ length h.words

body_back : (h : Header) (t : List ℕ) → IfOk (read_body h t) (Body h t)
unfolding read_body
body_back h t =
    go (read_block (header_lines h) (length h.words) (h.lines + 2) (section h.lines t (header_lines h + 1)) 1 8)
    (reads_back (header_lines h) (length h.words) (h.lines + 2) (section h.lines t (header_lines h + 1)) 1 8)
    (reads_fit (header_lines h) (length h.words) (h.lines + 2) (section h.lines t (header_lines h + 1)) 1 8)
  where
    go : (o : Out (Block × Closer)) → BlockBack (section h.lines t (header_lines h + 1)) 1 o → BlockFits (length h.words) 8 (section h.lines t (header_lines h + 1)) o → IfOk (whole_section o) (Body h t)
    go (bad e) b f = tt
    go (got (x, C.End e) s m) b f = tt
    go (got (x, C.Else e) s m) b f = tt
    go (got (x, C.Out) s m) b f =
        let r = Sections.section_back h.lines t (header_lines h + 1) (block_lines x []) (b.lines [] b.left) in
        record { text = r.text; count = omega (arith, r.count, block_length x []); names = r.fits; numbers = b.numbers; deep = f.deep; pointed = f.objects }

abbrev pub ReadingBack : List ℕ → Reading → Type 0
ReadingBack s (accepted c) = Writes s c
ReadingBack s (refused TooLong) = 16_384 < length s
ReadingBack s (refused (Line e)) = Unit {0}
ReadingBack s (refused TooManyTasks) = (c : Card) × (s ≡ card_text c) × (64 < card_tasks c)
ReadingBack s (refused TooManySteps) = (c : Card) × (s ≡ card_text c) × (card_tasks c ≤ 64) × (1_000_000 < card_steps c)
ReadingBack s (refused Memory) = ⊥

bounded_back : (s : List ℕ) (c : Card) → s ≡ card_text c → (card_tasks c ≤ 64 → card_steps c ≤ 1_000_000 → WellFormed c) → ReadingBack s (bounded c)
bounded_back s c text formed =
    cond_both (ltb 64 (card_tasks c)) _ _ (ReadingBack s) (λ e. (c, text, ltb-true 64 (card_tasks c) e)) (λ e.
    let few = ltb-false 64 (card_tasks c) e in
    cond_both (ltb 1_000_000 (card_steps c)) _ _ (ReadingBack s) (λ f. (c, text, few, ltb-true 1_000_000 (card_steps c) f)) (λ f.
    record { text = text; formed = formed few (ltb-false 1_000_000 (card_steps c) f) }))

card_back : (s : List ℕ) (h : Header) (t : List ℕ) → HeaderBack s h t → (r : Result Block LineFault) → IfOk r (Body h t) → ReadingBack s (after_body h r)
unfolding card_text
card_back s h t a (Err e) b = tt
card_back s h t a (Ok x) b =
    bounded_back s (card h x)
    (a.text ∙ ap (λ m. header_text h.kind h.order h.words m t) (sym b.count) ∙ ap (header_text h.kind h.order h.words (line_count x)) b.text)
    (λ tasks steps. record {
      limits = record { an_object = a.an_object; objects = a.objects; lines = omega (arith, a.lines, b.count); deep = b.deep; pointed = b.pointed; tasks = tasks; steps = steps };
      literals = a.literals;
      names = b.names;
      numbers = b.numbers;
    })

header_read : (s : List ℕ) (r : Result (Header × List ℕ) LineFault) → IfOk r (λ p. HeaderBack s p.0 p.1) → ReadingBack s (after_header r)
header_read s (Err e) a = tt
header_read s (Ok (h, t)) a = card_back s h t a (read_body h t) (body_back h t)

pub reading_back : (s : List ℕ) → ReadingBack s (reading s)
unfolding reading
reading_back s = cond_both (ltb 16_384 (length s)) _ _ (ReadingBack s) (λ e. ltb-true 16_384 (length s) e) (λ _. header_read s (read_header s) (header_back s))
