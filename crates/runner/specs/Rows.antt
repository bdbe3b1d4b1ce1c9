-- Texts, and what they give: worked rows of the definitions.
use Rattle.std.specs.Prelude.{◌≡◌, ℕ, List, [], ◌∷◌, ◌++◌, pos, codes}
use Prim.Native.String.{String}
use Rattle.kinds.specs.Values.{flags}
use Rattle.cards.specs.Code.{Card}
use Rattle.cards.specs.Bounds.{card_steps, card_tasks}
use Rattle.loading.specs.declared.refusal.LineFault.TheVariants.{TooDeep}
use Rattle.loading.specs.declared.refusal.LoadRefusal.TheVariants.{Line, TooManyTasks, TooManySteps}
use Rattle.loading.specs.Loading.{Reading, accepted, refused, reading}
use Rattle.runner.specs.Texts.{text_sheet}

-- the bytes of lines
abbrev pub text : List String → List ℕ
text [] = []
text (l ∷ ls) = codes l ++ (10 ∷ text ls)

-- a tally card of one object 0, its count of lines and its lines
abbrev pub small : String → List String → List ℕ
small count ls = text ("bench 2" ∷ "kind tally" ∷ "order first" ∷ "objects 1" ∷ "0" ∷ count ∷ ls)

-- a bound of an accepted text is n
abbrev pub Bound : (Card → ℕ) → ℕ → Reading → Type 0
Bound f n (accepted c) = f c ≡ n
Bound f n (refused e) = ⊥

abbrev pub rounds : List String → List String
rounds more =
    "repeat 62" ∷ "repeat 126" ∷ "repeat 25" ∷ "set n0 1" ∷ "set n0 1" ∷ "set n0 1" ∷ "set n0 1" ∷ "end" ∷ "end"
    ∷ "repeat 62" ∷ "set n0 1" ∷ "end" ∷ "end" ∷ more

abbrev pub nested_ifs : List String
nested_ifs =
    "if n0 n0" ∷ "if n0 n0" ∷ "if n0 n0" ∷ "if n0 n0" ∷ "if n0 n0" ∷ "if n0 n0" ∷ "if n0 n0" ∷ "if n0 n0" ∷ "if n0 n0"
    ∷ "end" ∷ "end" ∷ "end" ∷ "end" ∷ "end" ∷ "end" ∷ "end" ∷ "end" ∷ "end" ∷ []

pub record WorkedRows : Type 0 where
  -- no lines: W 1, and 1 step
  pub no_lines_bound : Bound card_steps 1 (reading (small "lines 0" []))
  pub no_lines_sheet : text_sheet (small "lines 0" []) ≡ text ("run 2" ∷ "tasks 1" ∷ "steps 1" ∷ "objects 1" ∷ "0" ∷ [])
  -- `repeat 63` of an empty task: T 64; `repeat 64` of it: refusal 5
  pub tasks_64 : Bound card_tasks 64 (reading (small "lines 5" ("repeat 63" ∷ "task" ∷ "do" ∷ "end" ∷ "end" ∷ [])))
  pub tasks_65 : reading (small "lines 5" ("repeat 64" ∷ "task" ∷ "do" ∷ "end" ∷ "end" ∷ [])) ≡ refused TooManyTasks
  pub tasks_65_sheet : text_sheet (small "lines 5" ("repeat 64" ∷ "task" ∷ "do" ∷ "end" ∷ "end" ∷ [])) ≡ text ("refused 3" ∷ "number 5" ∷ "line 0" ∷ "word 0" ∷ [])
  -- W 1,000,000, and the same and one `set`: refusal 6
  pub steps_1000000 : Bound card_steps 1_000_000 (reading (small "lines 13" (rounds [])))
  pub steps_1000001 : reading (small "lines 14" (rounds ("set n0 1" ∷ []))) ≡ refused TooManySteps
  -- flags 12 and 10: join 14, add 6
  pub flags_join : flags.join (flags.literal (pos 12)) (flags.literal (pos 10)) ≡ 14
  pub flags_add : flags.add (flags.literal (pos 12)) (flags.literal (pos 10)) ≡ 6
  -- two faults of a read
  pub unread : text_sheet (small "lines 5" ("task" ∷ "wr p0" ∷ "do" ∷ "read n0 p0" ∷ "end" ∷ [])) ≡ text ("fault 3" ∷ "kind read" ∷ "line 4" ∷ "task main.1" ∷ [])
  pub put_off : text_sheet (small "lines 6" ("task" ∷ "rd p0" ∷ "dfrd p0" ∷ "do" ∷ "read n0 p0" ∷ "end" ∷ [])) ≡ text ("fault 3" ∷ "kind read" ∷ "line 5" ∷ "task main.1" ∷ [])
  -- nine nested `if`: refusal 3 at the ninth, which is line 15 of the text
  pub ninth : reading (small "lines 18" nested_ifs) ≡ refused (Line (TooDeep 15))
  -- the example card
  pub example :
      text_sheet
      (text ("bench 2" ∷ "kind tally" ∷ "order last" ∷ "objects 2" ∷ "4" ∷ "-90" ∷ "lines 15"
      ∷ "point p0 o0" ∷ "point p1 o1"
      ∷ "task" ∷ "rd p0" ∷ "cm p1" ∷ "do" ∷ "read n0 p0" ∷ "join p1 n0" ∷ "end"
      ∷ "task" ∷ "cm p1" ∷ "do" ∷ "set n0 7" ∷ "join p1 n0" ∷ "end" ∷ []))
      ≡ text ("run 2" ∷ "tasks 3" ∷ "steps 11" ∷ "objects 2" ∷ "4" ∷ "-79" ∷ [])
