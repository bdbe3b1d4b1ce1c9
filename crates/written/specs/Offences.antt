-- Where a line of the lines section stands, and what is an offence there.
use Rattle.std.specs.Prelude.{ℕ, suc, ◌+◌, cond, List, [], ◌∷◌, length, Ok, Err, Result, nat_le}
use Rattle.loading.specs.declared.refusal.LineFault.{LineFault}
use Rattle.loading.specs.declared.refusal.LineFault.TheVariants as F
use Rattle.loading.specs.declared.line.Keyword.TheVariants as K
use Rattle.loading.specs.declared.blocks.SectionKind.TheVariants as S
use Rattle.loading.specs.Lines as Lines
use Rattle.loading.specs.Lines.{Line, then}
use Rattle.loading.specs.Texts.{Said, section}
use Rattle.loading.specs.Blocks.{Mark, more, close, wrong, mark}
use Rattle.loading.specs.Headers.{Header, read_header}
use Rattle.loading.specs.Loading.{header_lines}

-- what is open around a line: the first block of an `if`, any other block, or the declarations of a `task` or a `with`
pub data Open : Type 0 where
  if_block block task_section with_section : Open

-- what is open after a line, or its offence; innermost first
abbrev pub Judged : Type 0
Judged = Result (List Open) LineFault

-- blocks nest at most 8 deep
abbrev pub opened : Open → List Open → ℕ → Judged
opened x os m = cond (nat_le 8 (length os)) (Err (F.TooDeep m)) (Ok (x ∷ os))

abbrev pub ended : List Open → ℕ → Judged
ended [] m = Err (F.Misplaced m)
ended (if_block ∷ os) m = Ok os
ended (block ∷ os) m = Ok os
ended (task_section ∷ os) m = Err (F.Misplaced m)
ended (with_section ∷ os) m = Err (F.Misplaced m)

abbrev pub other_arm : List Open → ℕ → Judged
other_arm [] m = Err (F.Misplaced m)
other_arm (if_block ∷ os) m = Ok (block ∷ os)
other_arm (block ∷ os) m = Err (F.Misplaced m)
other_arm (task_section ∷ os) m = Err (F.Misplaced m)
other_arm (with_section ∷ os) m = Err (F.Misplaced m)

-- line m of the text in a block, on n objects
abbrev pub in_block : ℕ → Line → List Open → ℕ → Judged
in_block n (Lines.set i z) os m = Ok os
in_block n (Lines.add i j) os m = Ok os
in_block n (Lines.point p o) os m = cond (nat_le n o) (Err (F.NoObject m)) (Ok os)
in_block n (Lines.alias p q) os m = Ok os
in_block n (Lines.read i p) os m = Ok os
in_block n (Lines.write p i) os m = Ok os
in_block n (Lines.join p i) os m = Ok os
in_block n (Lines.if i j) os m = opened if_block os m
in_block n (Lines.repeat c) os m = opened block os m
in_block n (Lines.declare a v p) os m = Err (F.Misplaced m)
in_block n (Lines.keyword K.Task) os m = opened task_section os m
in_block n (Lines.keyword K.With) os m = Ok (with_section ∷ os)
in_block n (Lines.keyword K.Else) os m = other_arm os m
in_block n (Lines.keyword K.Do) os m = Err (F.Misplaced m)
in_block n (Lines.keyword K.Cont) os m = Err (F.Misplaced m)
in_block n (Lines.keyword K.End) os m = ended os m

-- in a section: what is open with it, and after it
abbrev pub in_section : Mark → List Open → List Open → ℕ → Judged
in_section (more d) os after m = Ok os
in_section close os after m = Ok after
in_section wrong os after m = Err (F.Misplaced m)

-- line m of the text where it stands, on n objects
abbrev pub judge : ℕ → Line → List Open → ℕ → Judged
judge n x [] m = in_block n x [] m
judge n x (if_block ∷ os) m = in_block n x (if_block ∷ os) m
judge n x (block ∷ os) m = in_block n x (block ∷ os) m
judge n x (task_section ∷ os) m = in_section (mark x S.Task m) (task_section ∷ os) (block ∷ os) m
judge n x (with_section ∷ os) m = in_section (mark x S.With m) (with_section ∷ os) os m

-- no statement is open at the end; m is the line after the last
abbrev pub at_end : List Open → ℕ → Result (Unit {0}) LineFault
at_end [] m = Ok tt
at_end (o ∷ os) m = Err (F.Open m)

-- the first fault of lines, of which the first is line m of the text
unfoldable pub first_fault : ℕ → List Open → List Said → ℕ → Result (Unit {0}) LineFault
first_fault n os [] m = at_end os m
first_fault n os (Err e ∷ s) m = Err e
first_fault n os (Ok x ∷ s) m = then (judge n x os m) (λ after. first_fault n after s (suc m))

-- what the lines of a text say of it: the first fault of the header, or else of the lines section
abbrev pub section_fault : Header → List ℕ → Result (Unit {0}) LineFault
section_fault h s = first_fault (length h.words) [] (section h.lines s (header_lines h + 1)) (header_lines h + 1)

unfoldable pub text_fault : List ℕ → Result (Unit {0}) LineFault
text_fault s = then (read_header s) (λ p. section_fault p.0 p.1)
