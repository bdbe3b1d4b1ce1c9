-- The written form of a card is accepted as that card.
use Rattle.std.proofs.Common.{◌≡◌, ℕ, zero, suc, ◌+◌, ◌-◌, ◌<◌, ◌≤◌, List, [], ◌∷◌, ◌++◌, length, None, Ok, refl, ap, ◌∙◌, subst, arith}
use Rattle.std.specs.List.{AllByRecursion}
use Rattle.std.proofs.lemmas.List.{append-nil, append_assoc}
use Rattle.std.proofs.lemmas.Bool.{ne_eqb, lt-leb, le-ltb}
use Rattle.cards.specs.declared.lines.Access.{Access}
use Rattle.cards.specs.declared.lines.Level.{Level}
use Rattle.cards.specs.declared.lines.Level.TheVariants.{Absent, Deferred, Immediate}
use Rattle.cards.specs.declared.lines.Declaration.{Declaration}
use Rattle.cards.specs.Code.{Block, end, next, Statement, Card}
use Rattle.cards.specs.Bounds.{line_count, statement_lines, depth, statement_depth, object_bound, statement_objects, card_tasks, card_steps}
use Rattle.loading.specs.declared.line.Keyword.TheVariants as K
use Rattle.loading.specs.declared.blocks.Closer.{Closer}
use Rattle.loading.specs.declared.blocks.Closer.TheVariants as C
use Rattle.loading.specs.declared.blocks.SectionKind.{SectionKind}
use Rattle.loading.specs.declared.blocks.SectionKind.TheVariants as S
use Rattle.loading.specs.Lines as Lines
use Rattle.loading.specs.Lines.{Line}
use Rattle.loading.specs.Texts.{Said, section}
use Rattle.loading.specs.Blocks.{got, more, close, declaration, declared_in, mark, read_section, closer, statement_by, read_block}
use Rattle.loading.specs.Headers.{Header}
use Rattle.loading.specs.Loading.{accepted, header_lines, read_body, reading}
use Rattle.written.specs.Written.{opening, declaration_lines, block_lines, inner_lines, body_lines, lines_text, card_text}
use Rattle.written.specs.Formed.{NumberedDeclarations, Numbered, NumberedInside, WellFormed}
use Rattle.written.proofs.Sections.{oks, section_end, Allowed, section_forth, lines_length, declarations_length, block_length, inner_length}
use Rattle.written.proofs.Headers.{header_forth, header_length}

-- Declaration sections.

declared : (k : SectionKind) (l : ℕ) (a : Access) (v : Level) (p : ℕ) → Allowed k (declaration l a v p) → declared_in k l a v p ≡ more (declaration l a v p)
declared S.With l a v p h = refl
declared S.Task l a Immediate p h = refl
declared S.Task l a Deferred p h = refl
declared S.Task l a Absent p h = absurd h

marked : (k : SectionKind) (d : Declaration) → Allowed k d → mark (Lines.declare d.access d.level d.pointer) k d.line ≡ more d
marked k d h = declared k d.line d.access d.level d.pointer h

any_allowed : (ds : List Declaration) → AllByRecursion (Allowed S.With) ds
any_allowed [] = tt
any_allowed (d ∷ ds) = (tt, any_allowed ds)

closed : (k : SectionKind) (l : ℕ) → mark (section_end k) k l ≡ close
closed S.Task l = refl
closed S.With l = refl

declarations_forth : (h : ℕ) (k : SectionKind) (es ds : List Declaration) (r : List Line) (l : ℕ) → NumberedDeclarations es l → AllByRecursion (Allowed k) es → read_section h k ds (oks (declaration_lines es (section_end k ∷ r))) l ≡ got (ds ++ es) (oks r) (l + suc (length es))
unfolding read_section
declarations_forth h k [] ds r l numbers allowed = rw (closed k l, append-nil ds) (ap (got ds (oks r)) (omega arith))
declarations_forth h k (e ∷ es) ds r l numbers allowed =
    rw (← numbers.0, marked k e allowed.0)
    (declarations_forth h k es (ds ++ e ∷ []) r (suc e.line) (subst (NumberedDeclarations es) (omega (arith, numbers.0)) numbers.1) allowed.1
    ∙ rw (append_assoc ds (e ∷ []) es) (ap (got (ds ++ (e ∷ es)) (oks r)) (omega arith)))

-- Blocks and statements.

opens : (x : Statement) (n : ℕ) → closer (opening x) n ≡ None
opens (Statement.set i z) n = refl
opens (Statement.add i j) n = refl
opens (Statement.point p o) n = refl
opens (Statement.alias p q) n = refl
opens (Statement.read i p) n = refl
opens (Statement.write p i) n = refl
opens (Statement.join p i) n = refl
opens (Statement.if i j x) n = refl
opens (Statement.if_else i j x y) n = refl
opens (Statement.repeat c x) n = refl
opens (Statement.task ds x) n = refl
opens (Statement.with ds) n = refl

a_line : (x : Statement) → 1 ≤ statement_lines x
unfolding statement_lines
a_line (Statement.set i z) = omega arith
a_line (Statement.add i j) = omega arith
a_line (Statement.point p o) = omega arith
a_line (Statement.alias p q) = omega arith
a_line (Statement.read i p) = omega arith
a_line (Statement.write p i) = omega arith
a_line (Statement.join p i) = omega arith
a_line (Statement.if i j x) = omega arith
a_line (Statement.if_else i j x y) = omega arith
a_line (Statement.repeat c x) = omega arith
a_line (Statement.task ds x) = omega arith
a_line (Statement.with ds) = omega arith

module _ (h n : ℕ) where
  -- the lines of r begin with what ends a block at line l: q, and then the lines of t, from line m on
  abbrev Closing : List Line → ℕ → ℕ → Closer → List Said → ℕ → Type 0
  Closing r l d q t m = (f : ℕ) → length r < f → read_block h n f (oks r) l d ≡ got (end, q) t m

  end_closes : (r : List Line) (l d : ℕ) → Closing (Lines.keyword K.End ∷ r) l d (C.End (h + l)) (oks r) (suc l)
  unfolding read_block
  end_closes r l d zero e = absurd (omega arith)
  end_closes r l d (suc f) e = refl

  else_closes : (r : List Line) (l d : ℕ) → Closing (Lines.keyword K.Else ∷ r) l d (C.Else (h + l)) (oks r) (suc l)
  unfolding read_block
  else_closes r l d zero e = absurd (omega arith)
  else_closes r l d (suc f) e = refl

  section_closes : (l d : ℕ) → Closing [] l d C.Out [] l
  unfolding read_block
  section_closes l d zero e = absurd (omega arith)
  section_closes l d (suc f) e = refl

  -- one line that begins a statement, and the block after it
  statement_then : (x : Statement) (b : Block) (s t u : List Said) (l d m : ℕ) (q : Closer) (o g : ℕ) → statement_by h n (read_block h n g) (opening x) l s (suc l) d ≡ got x t m → read_block h n g t m d ≡ got (b, q) u o → read_block h n (suc g) (Ok (opening x) ∷ s) l d ≡ got (next l x b, q) u o
  unfolding read_block
  statement_then x b s t u l d m q o g st rest = rw (opens x (h + l), st, rest)

  mutual
    unfolding block_lines inner_lines line_count statement_lines depth statement_depth object_bound statement_objects Numbered NumberedInside

    block_forth : (b : Block) (l d : ℕ) (r : List Line) (q : Closer) (t : List Said) (m : ℕ) → Numbered b l → depth b ≤ d → object_bound b ≤ n → Closing r (l + line_count b) d q t m → (f : ℕ) → length (block_lines b r) < f → read_block h n f (oks (block_lines b r)) l d ≡ got (b, q) t m
    block_forth end l d r q t m numbers deep pointed c f e = subst (λ k. read_block h n f (oks r) k d ≡ got (end, q) t m) (omega arith) (c f e)
    block_forth (next k x b) l d r q t m numbers deep pointed c zero e = absurd (omega arith)
    block_forth (next k x b) l d r q t m numbers deep pointed c (suc g) e =
        rw numbers.0
        (statement_then x b _ (oks (block_lines b r)) t l d (l + statement_lines x) q m g
        (inner_forth x l d (block_lines b r) numbers.1 (omega arith) (omega arith) g (omega arith))
        (block_forth b (l + statement_lines x) d r q t m numbers.2 (omega arith) (omega arith) (subst (λ k. Closing r k d q t m) (omega arith) c) g (omega (arith, inner_length x (block_lines b r), a_line x))))

    inner_forth : (x : Statement) (l d : ℕ) (r : List Line) → NumberedInside x l → statement_depth x ≤ d → statement_objects x ≤ n → (g : ℕ) → length (inner_lines x r) < g → statement_by h n (read_block h n g) (opening x) l (oks (inner_lines x r)) (suc l) d ≡ got x (oks r) (l + statement_lines x)
    inner_forth (Statement.set i z) l d r numbers deep pointed g e = ap (got (Statement.set i z) (oks r)) (omega arith)
    inner_forth (Statement.add i j) l d r numbers deep pointed g e = ap (got (Statement.add i j) (oks r)) (omega arith)
    inner_forth (Statement.point p o) l d r numbers deep pointed g e = rw (lt-leb n o pointed) (ap (got (Statement.point p o) (oks r)) (omega arith))
    inner_forth (Statement.alias p q) l d r numbers deep pointed g e = ap (got (Statement.alias p q) (oks r)) (omega arith)
    inner_forth (Statement.read i p) l d r numbers deep pointed g e = ap (got (Statement.read i p) (oks r)) (omega arith)
    inner_forth (Statement.write p i) l d r numbers deep pointed g e = ap (got (Statement.write p i) (oks r)) (omega arith)
    inner_forth (Statement.join p i) l d r numbers deep pointed g e = ap (got (Statement.join p i) (oks r)) (omega arith)
    inner_forth (Statement.if i j x) l d r numbers deep pointed g e =
        let c = end_closes r (suc l + line_count x) (d - 1) in
        let b = block_forth x (suc l) (d - 1) (Lines.keyword K.End ∷ r) (C.End (h + (suc l + line_count x))) (oks r) (suc (suc l + line_count x)) (subst (Numbered x) (omega arith) numbers) (omega arith) pointed c g e in
        rw (ne_eqb d 0 (λ z. omega arith), b) (ap (got (Statement.if i j x) (oks r)) (omega arith))
    inner_forth (Statement.if_else i j x y) l d r numbers deep pointed g e =
        let m = suc (suc l + line_count x) in
        let rest = block_lines y (Lines.keyword K.End ∷ r) in
        let b = block_forth x (suc l) (d - 1) (Lines.keyword K.Else ∷ rest) (C.Else (h + (suc l + line_count x))) (oks rest) m (subst (Numbered x) (omega arith) numbers.0) (omega arith) (omega arith) (else_closes rest (suc l + line_count x) (d - 1)) g e in
        let c = block_forth y m (d - 1) (Lines.keyword K.End ∷ r) (C.End (h + (m + line_count y))) (oks r) (suc (m + line_count y)) (subst (Numbered y) (omega arith) numbers.1) (omega arith) (omega arith) (end_closes r (m + line_count y) (d - 1)) g (omega (arith, block_length x (Lines.keyword K.Else ∷ rest))) in
        rw (ne_eqb d 0 (λ z. omega arith), b, c) (ap (got (Statement.if_else i j x y) (oks r)) (omega arith))
    inner_forth (Statement.repeat k x) l d r numbers deep pointed g e =
        let c = end_closes r (suc l + line_count x) (d - 1) in
        let b = block_forth x (suc l) (d - 1) (Lines.keyword K.End ∷ r) (C.End (h + (suc l + line_count x))) (oks r) (suc (suc l + line_count x)) (subst (Numbered x) (omega arith) numbers) (omega arith) pointed c g e in
        rw (ne_eqb d 0 (λ z. omega arith), b) (ap (got (Statement.repeat k x) (oks r)) (omega arith))
    inner_forth (Statement.task ds x) l d r numbers deep pointed g e =
        let rest = block_lines x (Lines.keyword K.End ∷ r) in
        let m = suc l + suc (length ds) in
        let s = declarations_forth h S.Task ds [] rest (suc l) (subst (NumberedDeclarations ds) (omega arith) numbers.1) numbers.0 in
        let b = block_forth x m (d - 1) (Lines.keyword K.End ∷ r) (C.End (h + (m + line_count x))) (oks r) (suc (m + line_count x)) (subst (Numbered x) (omega arith) numbers.2) (omega arith) pointed (end_closes r (m + line_count x) (d - 1)) g (omega (arith, declarations_length ds (Lines.keyword K.Do ∷ rest))) in
        rw (ne_eqb d 0 (λ z. omega arith), s, b) (ap (got (Statement.task ds x) (oks r)) (omega arith))
    inner_forth (Statement.with ds) l d r numbers deep pointed g e =
        let s = declarations_forth h S.With ds [] r (suc l) (subst (NumberedDeclarations ds) (omega arith) numbers) (any_allowed ds) in
        rw s (ap (got (Statement.with ds) (oks r)) (omega arith))

-- The whole text.

module _ (c : Card) (f : WellFormed c) where
  abbrev header : Header
  header = record { kind = c.kind; order = c.order; words = c.words; lines = line_count c.body }

  short : length (card_text c) ≤ 16_384
  unfolding card_text
  short = omega (arith, header_length header (lines_text (body_lines c)) f.limits.an_object f.limits.objects f.limits.lines f.literals, f.limits.objects, f.limits.lines, lines_length (body_lines c) f.names, block_length c.body [])

  section_is : section (line_count c.body) (lines_text (body_lines c)) (header_lines header + 1) ≡ oks (body_lines c)
  section_is =
      let all : line_count c.body ≡ length (body_lines c) = omega (arith, block_length c.body []) in
      ap (λ m. section m (lines_text (body_lines c)) (header_lines header + 1)) all ∙ section_forth (body_lines c) (header_lines header + 1) f.names

  body_forth : read_body header (lines_text (body_lines c)) ≡ Ok c.body
  unfolding read_body
  body_forth =
      rw (
        section_is,
        block_forth (header_lines header) (length c.words) c.body 1 8 [] C.Out [] (1 + line_count c.body) f.numbers f.limits.deep f.limits.pointed (section_closes (header_lines header) (length c.words) (1 + line_count c.body) 8) (line_count c.body + 2) (omega (arith, block_length c.body [])),
      )

  pub written_is_accepted : reading (card_text c) ≡ accepted c
  unfolding reading card_text
  written_is_accepted =
      rw (
        le-ltb 16_384 _ short,
        header_forth header (lines_text (body_lines c)) f.limits.an_object f.limits.objects f.limits.lines f.literals,
        body_forth,
        le-ltb 64 (card_tasks c) f.limits.tasks,
        le-ltb 1_000_000 (card_steps c) f.limits.steps,
      )
