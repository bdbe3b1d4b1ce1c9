-- How a card is written, header and body: each definition puts its own lines in front of what follows.
use Rattle.std.specs.Prelude.{ℕ, List, [], ◌∷◌, ◌++◌, length, ℤ, codes, decimal}
use Rattle.std.specs.Fmt.{signed_decimal}
use Rattle.cards.specs.Code.{Block, end, next, Statement, Card}
use Rattle.cards.specs.Bounds.{line_count}
use Rattle.cards.specs.declared.lines.Access.{Access}
use Rattle.cards.specs.declared.lines.Access.TheVariants as A
use Rattle.cards.specs.declared.lines.Level.{Level}
use Rattle.cards.specs.declared.lines.Level.TheVariants as Lv
use Rattle.cards.specs.declared.lines.Declaration.{Declaration}
use Rattle.cards.specs.declared.lines.KindName.{KindName}
use Rattle.cards.specs.declared.lines.KindName.TheVariants as Kind
use Rattle.cards.specs.declared.lines.OrderName.{OrderName}
use Rattle.cards.specs.declared.lines.OrderName.TheVariants as Order
use Rattle.loading.specs.declared.line.Keyword.{Keyword}
use Rattle.loading.specs.declared.line.Keyword.TheVariants as K
use Rattle.loading.specs.Lines as Lines
use Rattle.loading.specs.Lines.{Line}

-- The lines of a body.

-- the line that a statement begins with
abbrev pub opening : Statement → Line
opening (Statement.set i z) = Lines.set i z
opening (Statement.add i j) = Lines.add i j
opening (Statement.point p o) = Lines.point p o
opening (Statement.alias p q) = Lines.alias p q
opening (Statement.read i p) = Lines.read i p
opening (Statement.write p i) = Lines.write p i
opening (Statement.join p i) = Lines.join p i
opening (Statement.if i j x) = Lines.if i j
opening (Statement.if_else i j x y) = Lines.if i j
opening (Statement.repeat c x) = Lines.repeat c
opening (Statement.task ds x) = Lines.keyword K.Task
opening (Statement.with ds) = Lines.keyword K.With

abbrev pub declaration_lines : List Declaration → List Line → List Line
declaration_lines [] more = more
declaration_lines (d ∷ ds) more = Lines.declare d.access d.level d.pointer ∷ declaration_lines ds more

unfoldable mutual
  pub block_lines : Block → List Line → List Line
  block_lines end more = more
  block_lines (next l s b) more = opening s ∷ inner_lines s (block_lines b more)

  -- the lines of a statement after its first
  pub inner_lines : Statement → List Line → List Line
  inner_lines (Statement.set i z) more = more
  inner_lines (Statement.add i j) more = more
  inner_lines (Statement.point p o) more = more
  inner_lines (Statement.alias p q) more = more
  inner_lines (Statement.read i p) more = more
  inner_lines (Statement.write p i) more = more
  inner_lines (Statement.join p i) more = more
  inner_lines (Statement.if i j x) more = block_lines x (Lines.keyword K.End ∷ more)
  inner_lines (Statement.if_else i j x y) more = block_lines x (Lines.keyword K.Else ∷ block_lines y (Lines.keyword K.End ∷ more))
  inner_lines (Statement.repeat c x) more = block_lines x (Lines.keyword K.End ∷ more)
  inner_lines (Statement.task ds x) more = declaration_lines ds (Lines.keyword K.Do ∷ block_lines x (Lines.keyword K.End ∷ more))
  inner_lines (Statement.with ds) more = declaration_lines ds (Lines.keyword K.Cont ∷ more)

abbrev pub body_lines : Card → List Line
body_lines c = block_lines c.body []

-- The words of a line.

abbrev pub local_name : ℕ → List ℕ
local_name i = 110 ∷ decimal i

abbrev pub pointer_name : ℕ → List ℕ
pointer_name p = 112 ∷ decimal p

abbrev pub object_name : ℕ → List ℕ
object_name o = 111 ∷ decimal o

abbrev pub keyword_word : Keyword → List ℕ
keyword_word K.Else = codes "else"
keyword_word K.Task = codes "task"
keyword_word K.Do = codes "do"
keyword_word K.With = codes "with"
keyword_word K.Cont = codes "cont"
keyword_word K.End = codes "end"

abbrev pub access_word : Access → List ℕ
access_word A.Rd = codes "rd"
access_word A.Wr = codes "wr"
access_word A.Cm = codes "cm"

abbrev pub declaration_word : Access → Level → List ℕ
declaration_word a Lv.Immediate = access_word a
declaration_word a Lv.Deferred = codes "df" ++ access_word a
declaration_word a Lv.Absent = codes "no" ++ access_word a

abbrev pub line_words : Line → List (List ℕ)
line_words (Lines.set i z) = codes "set" ∷ local_name i ∷ signed_decimal z ∷ []
line_words (Lines.add i j) = codes "add" ∷ local_name i ∷ local_name j ∷ []
line_words (Lines.point p o) = codes "point" ∷ pointer_name p ∷ object_name o ∷ []
line_words (Lines.alias p q) = codes "alias" ∷ pointer_name p ∷ pointer_name q ∷ []
line_words (Lines.read i p) = codes "read" ∷ local_name i ∷ pointer_name p ∷ []
line_words (Lines.write p i) = codes "write" ∷ pointer_name p ∷ local_name i ∷ []
line_words (Lines.join p i) = codes "join" ∷ pointer_name p ∷ local_name i ∷ []
line_words (Lines.if i j) = codes "if" ∷ local_name i ∷ local_name j ∷ []
line_words (Lines.repeat c) = codes "repeat" ∷ decimal c ∷ []
line_words (Lines.declare a v p) = declaration_word a v ∷ pointer_name p ∷ []
line_words (Lines.keyword k) = keyword_word k ∷ []

-- The bytes of lines.

-- one space between words
abbrev pub unwords : List (List ℕ) → List ℕ
unwords [] = []
unwords (w ∷ []) = w
unwords (w ∷ v ∷ ws) = w ++ 32 ∷ unwords (v ∷ ws)

-- a line of words, ended by byte 10
abbrev pub line : List (List ℕ) → List ℕ → List ℕ
line ws more = unwords ws ++ 10 ∷ more

unfoldable pub lines_text : List Line → List ℕ
lines_text [] = []
lines_text (x ∷ xs) = line (line_words x) (lines_text xs)

-- The header.

abbrev pub kind_word : KindName → List ℕ
kind_word Kind.Tally = codes "tally"
kind_word Kind.Flags = codes "flags"

abbrev pub order_word : OrderName → List ℕ
order_word Order.First = codes "first"
order_word Order.Last = codes "last"
order_word Order.Turns = codes "turns"
order_word Order.Narrow = codes "narrow"

unfoldable pub literal_lines : List ℤ → List ℕ → List ℕ
literal_lines [] more = more
literal_lines (z ∷ zs) more = line (signed_decimal z ∷ []) (literal_lines zs more)

-- the header of a card with m lines
abbrev pub header_text : KindName → OrderName → List ℤ → ℕ → List ℕ → List ℕ
header_text kind order words m more =
    line (codes "bench" ∷ codes "2" ∷ [])
    (line (codes "kind" ∷ kind_word kind ∷ [])
    (line (codes "order" ∷ order_word order ∷ [])
    (line (codes "objects" ∷ decimal (length words) ∷ [])
    (literal_lines words
    (line (codes "lines" ∷ decimal m ∷ []) more)))))

unfoldable pub card_text : Card → List ℕ
card_text c = header_text c.kind c.order c.words (line_count c.body) (lines_text (body_lines c))
