-- Reading the lines section: a block is made of statements, and a statement may hold blocks.
-- Lines are counted from 1 in the section; a fault names the line of the text, which is h lines further on.
use Rattle.std.specs.Prelude.{◌≡◌, ℕ, zero, suc, ◌+◌, ◌-◌, ◌≤◌, cond, List, [], ◌∷◌, ◌++◌, length, Some, None, Ok, Err, vec_items, Option, Result, ◌==◌, nat_le}
use Rattle.cards.specs.declared.lines.Access.{Access}
use Rattle.cards.specs.declared.lines.Level.{Level}
use Rattle.cards.specs.declared.lines.Level.TheVariants.{Absent, Deferred, Immediate}
use Rattle.cards.specs.declared.lines.Declaration.{Declaration}
use Rattle.cards.specs.declared.section.Section as Cards
use Rattle.cards.specs.declared.tree.Block as Tree
use Rattle.cards.specs.Code.{Block, end, next, Statement}
use Rattle.cards.specs.Trees.{block_of}
use Rattle.loading.specs.declared.refusal.LineFault.{LineFault}
use Rattle.loading.specs.declared.refusal.LineFault.TheVariants.{Misplaced, TooDeep, Open, NoObject}
use Rattle.loading.specs.declared.refusal.LoadRefusal.{LoadRefusal}
use Rattle.loading.specs.declared.refusal.LoadRefusal.TheVariants as R
use Rattle.loading.specs.declared.cursor.Cursor.{Cursor}
use Rattle.loading.specs.declared.line.Keyword.{Keyword}
use Rattle.loading.specs.declared.line.Keyword.TheVariants as K
use Rattle.loading.specs.declared.blocks.Closer.{Closer}
use Rattle.loading.specs.declared.blocks.Closer.TheVariants as C
use Rattle.loading.specs.declared.blocks.Declared.{Declared}
use Rattle.loading.specs.declared.blocks.SectionKind.{SectionKind}
use Rattle.loading.specs.declared.blocks.SectionKind.TheVariants as S
use Rattle.loading.specs.Lines as Lines
use Rattle.loading.specs.Lines.{Line}
use Rattle.loading.specs.Texts.{Said, upcoming}

-- a value, the lines still to come and the number of the first of them; or a fault
pub data Out (A : Type 0) : Type 0 where
  got : A → List Said → ℕ → Out A
  bad : LineFault → Out A

abbrev pub bind : {A B : Type 0} → Out A → (A → List Said → ℕ → Out B) → Out B
bind (got x s l) k = k x s l
bind (bad e) k = bad e

-- Declaration sections.

-- a line in a section: one more declaration, its end, or out of place
pub data Mark : Type 0 where
  more : Declaration → Mark
  close : Mark
  wrong : Mark

abbrev pub declaration : ℕ → Access → Level → ℕ → Declaration
declaration l a s p = record { line = l; access = a; level = s; pointer = p }

-- a withdrawn declaration stands only inside `with`
abbrev pub declared_in : SectionKind → ℕ → Access → Level → ℕ → Mark
declared_in S.With l a s p = more (declaration l a s p)
declared_in S.Task l a Immediate p = more (declaration l a Immediate p)
declared_in S.Task l a Deferred p = more (declaration l a Deferred p)
declared_in S.Task l a Absent p = wrong

-- `do` ends the section of a `task`, `cont` that of a `with`
abbrev pub ends_section : Keyword → SectionKind → Mark
ends_section K.Do S.Task = close
ends_section K.Do S.With = wrong
ends_section K.Cont S.Task = wrong
ends_section K.Cont S.With = close
ends_section K.Else k = wrong
ends_section K.Task k = wrong
ends_section K.With k = wrong
ends_section K.End k = wrong

abbrev pub mark : Line → SectionKind → ℕ → Mark
mark (Lines.declare a s p) k l = declared_in k l a s p
mark (Lines.keyword w) k l = ends_section w k
mark (Lines.set i z) k l = wrong
mark (Lines.add i j) k l = wrong
mark (Lines.point p o) k l = wrong
mark (Lines.alias p q) k l = wrong
mark (Lines.read i p) k l = wrong
mark (Lines.write p i) k l = wrong
mark (Lines.join p i) k l = wrong
mark (Lines.if i j) k l = wrong
mark (Lines.repeat c) k l = wrong

abbrev pub by_mark : Mark → ℕ → List Declaration → List Said → ℕ → (List Declaration → Out (List Declaration)) → Out (List Declaration)
by_mark (more d) h ds ss l k = k (ds ++ d ∷ [])
by_mark close h ds ss l k = got ds ss (suc l)
by_mark wrong h ds ss l k = bad (Misplaced (h + l))

-- the declarations up to the line that ends the section, after those of ds
unfoldable pub read_section : ℕ → SectionKind → List Declaration → List Said → ℕ → Out (List Declaration)
read_section h k ds [] l = bad (Open (h + l))
read_section h k ds (Err e ∷ ss) l = bad e
read_section h k ds (Ok x ∷ ss) l = by_mark (mark x k l) h ds ss l (λ es. read_section h k es ss (suc l))

-- Blocks.

-- what ends a block: `end`, `else`, or the end of the section
abbrev pub closer : Line → ℕ → Option Closer
closer (Lines.keyword K.End) n = Some (C.End n)
closer (Lines.keyword K.Else) n = Some (C.Else n)
closer (Lines.keyword K.Task) n = None
closer (Lines.keyword K.Do) n = None
closer (Lines.keyword K.With) n = None
closer (Lines.keyword K.Cont) n = None
closer (Lines.declare a s p) n = None
closer (Lines.set i z) n = None
closer (Lines.add i j) n = None
closer (Lines.point p o) n = None
closer (Lines.alias p q) n = None
closer (Lines.read i p) n = None
closer (Lines.write p i) n = None
closer (Lines.join p i) n = None
closer (Lines.if i j) n = None
closer (Lines.repeat c) n = None

-- a statement's block is ended by `end`; n is the line of the text after the last
abbrev pub ended : Closer → ℕ → Result (Unit {0}) LineFault
ended (C.End m) n = Ok tt
ended (C.Else m) n = Err (Misplaced m)
ended C.Out n = Err (Open n)

abbrev pub whole : Result (Unit {0}) LineFault → Statement → List Said → ℕ → Out Statement
whole (Ok u) x s l = got x s l
whole (Err e) x s l = bad e

-- reads a block from the lines to come, the number of the first of them, and how much deeper blocks may nest
abbrev pub Reader : Type 0
Reader = List Said → ℕ → ℕ → Out (Block × Closer)

abbrev pub arms : ℕ → Reader → ℕ → ℕ → ℕ → Block × Closer → List Said → ℕ → Out Statement
arms h k d i j (x, C.End n) s l = got (Statement.if i j x) s l
arms h k d i j (x, C.Else n) s l = bind (k s l d) (λ q s' l'. whole (ended q.1 (h + l')) (Statement.if_else i j x q.0) s' l')
arms h k d i j (x, C.Out) s l = bad (Open (h + l))

-- a block one deeper, if there may be one
abbrev pub deeper : {A : Type 0} → ℕ → ℕ → Out A → Out A
deeper d n o = cond (d == 0) (bad (TooDeep n)) o

-- the statement that begins with line x, which is number l; s and m are the lines after it and the number of the first
abbrev pub statement_by : ℕ → ℕ → Reader → Line → ℕ → List Said → ℕ → ℕ → Out Statement
statement_by h n k (Lines.set i z) l s m d = got (Statement.set i z) s m
statement_by h n k (Lines.add i j) l s m d = got (Statement.add i j) s m
statement_by h n k (Lines.point p o) l s m d = cond (nat_le n o) (bad (NoObject (h + l))) (got (Statement.point p o) s m)
statement_by h n k (Lines.alias p q) l s m d = got (Statement.alias p q) s m
statement_by h n k (Lines.read i p) l s m d = got (Statement.read i p) s m
statement_by h n k (Lines.write p i) l s m d = got (Statement.write p i) s m
statement_by h n k (Lines.join p i) l s m d = got (Statement.join p i) s m
statement_by h n k (Lines.if i j) l s m d = deeper d (h + l) (bind (k s m (d - 1)) (arms h k (d - 1) i j))
statement_by h n k (Lines.repeat c) l s m d = deeper d (h + l) (bind (k s m (d - 1)) (λ p s' m'. whole (ended p.1 (h + m')) (Statement.repeat c p.0) s' m'))
statement_by h n k (Lines.declare a v p) l s m d = bad (Misplaced (h + l))
statement_by h n k (Lines.keyword K.Task) l s m d = deeper d (h + l) (bind (read_section h S.Task [] s m) (λ ds s' m'. bind (k s' m' (d - 1)) (λ p s'' m''. whole (ended p.1 (h + m'')) (Statement.task ds p.0) s'' m'')))
statement_by h n k (Lines.keyword K.With) l s m d = bind (read_section h S.With [] s m) (λ ds s' m'. got (Statement.with ds) s' m')
statement_by h n k (Lines.keyword K.Else) l s m d = bad (Misplaced (h + l))
statement_by h n k (Lines.keyword K.Do) l s m d = bad (Misplaced (h + l))
statement_by h n k (Lines.keyword K.Cont) l s m d = bad (Misplaced (h + l))
statement_by h n k (Lines.keyword K.End) l s m d = bad (Misplaced (h + l))

abbrev pub followed : Reader → ℕ → ℕ → Statement → List Said → ℕ → Out (Block × Closer)
followed k d l x s m = bind (k s m d) (λ p s' m'. got (next l x p.0, p.1) s' m')

abbrev pub by_closer : ℕ → ℕ → Reader → Option Closer → Line → List Said → ℕ → ℕ → Out (Block × Closer)
by_closer h n k (Some q) x s l d = got (end, q) s (suc l)
by_closer h n k None x s l d = bind (statement_by h n k x l s (suc l) d) (followed k d l)

abbrev pub block_by : ℕ → ℕ → Reader → List Said → ℕ → ℕ → Out (Block × Closer)
block_by h n k [] l d = got (end, C.Out) [] l
block_by h n k (Err e ∷ s) l d = bad e
block_by h n k (Ok x ∷ s) l d = by_closer h n k (closer x (h + l)) x s l d

-- a block on n objects after h lines of header, and what ends it; f is more than the lines to come
unfoldable pub read_block : ℕ → ℕ → ℕ → Reader
read_block h n zero s l d = bad (Open (h + l))
read_block h n (suc f) s l d = block_by h n (read_block h n f) s l d

-- What the readers answer and leave, but for want of memory.

abbrev pub AnswerIs : {A B : Type 0} → (A → B) → Result A LoadRefusal → Out B → Cursor → Type 0
AnswerIs f (Ok x) o c = o ≡ got (f x) (upcoming c) c.line
AnswerIs f (Err (R.Line e)) o c = o ≡ bad e
AnswerIs f (Err R.Memory) o c = Unit {0}
AnswerIs f (Err R.TooLong) o c = ⊥
AnswerIs f (Err R.TooManyTasks) o c = ⊥
AnswerIs f (Err R.TooManySteps) o c = ⊥

-- what line l was read as in a section
abbrev pub mark_of : Result (Option Declared) LineFault → ℕ → Mark
mark_of (Ok (Some d)) l = more (declaration l d.access d.level d.pointer.n)
mark_of (Ok None) l = close
mark_of (Err e) l = wrong

abbrev pub section_of : Cards.Section → List Declaration
section_of s = vec_items s.lines

abbrev pub closed_block_of : Tree.Block × Closer → Block × Closer
closed_block_of p = (block_of p.0, p.1)

-- the header stays, and no more lines are to come than before
pub record Forward (c d : Cursor) : Type 0 where
  pub fewer : length (upcoming d) ≤ length (upcoming c)
  pub header : d.header ≡ c.header
  pub objects : d.objects ≡ c.objects
