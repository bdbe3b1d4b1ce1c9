-- The three sheets, byte for byte. A head's number counts its lines.
use Rattle.std.specs.Prelude.{ℕ, List, [], ◌∷◌, ◌++◌, length, Some, None, codes, decimal, Option}
use Prim.Native.String.{String}
use Rattle.std.specs.Fmt.{signed_decimal}
use Rattle.kinds.specs.Kinds.{Kind}
use Rattle.cards.specs.Code.{Card}
use Rattle.working.specs.declared.fault.FaultKind.{FaultKind}
use Rattle.working.specs.declared.fault.FaultKind.TheVariants.{Read, Write, Join, Declare}
use Rattle.working.specs.Serial.{Outcome, words, fault, Result, serially}

-- a line: a word, a space, a text and byte 10, before the rest
abbrev pub line : String → List ℕ → List ℕ → List ℕ
line w text rest = codes w ++ (32 ∷ (text ++ (10 ∷ rest)))

abbrev pub fault_name : FaultKind → List ℕ
fault_name Read = codes "read"
fault_name Write = codes "write"
fault_name Join = codes "join"
fault_name Declare = codes "declare"

-- behind `main`, a point and a rank for each child
abbrev pub ranks_text : List ℕ → List ℕ
ranks_text [] = []
ranks_text (n ∷ ns) = codes "." ++ (decimal n ++ ranks_text ns)

abbrev pub place_text : List ℕ → List ℕ
place_text p = codes "main" ++ ranks_text p

-- each word's number, one a line
abbrev pub numbers : Kind → List ℕ → List ℕ
numbers k [] = []
numbers k (w ∷ ws) = signed_decimal (k.number w) ++ (10 ∷ numbers k ws)

abbrev pub run_sheet : Kind → ℕ → ℕ → List ℕ → List ℕ
run_sheet k made steps ws = line "run" (codes "2") (line "tasks" (decimal made) (line "steps" (decimal steps) (line "objects" (decimal (length ws)) (numbers k ws))))

abbrev pub fault_sheet : FaultKind → ℕ → List ℕ → List ℕ
fault_sheet f l p = line "fault" (codes "3") (line "kind" (fault_name f) (line "line" (decimal l) (line "task" (place_text p) [])))

abbrev pub refused_sheet : ℕ → ℕ → ℕ → List ℕ
refused_sheet n l w = line "refused" (codes "3") (line "number" (decimal n) (line "line" (decimal l) (line "word" (decimal w) [])))

unfoldable pub outcome_sheet : Kind → ℕ → ℕ → Outcome → List ℕ
outcome_sheet k made steps (words ws) = run_sheet k made steps ws
outcome_sheet k made steps (fault f l p) = fault_sheet f l p

unfoldable pub result_sheet : Kind → Option Result → List ℕ
result_sheet k None = []
result_sheet k (Some r) = outcome_sheet k r.made r.steps r.outcome

-- the sheet of a card, by serial working alone
unfoldable pub sheet_of : Kind → Card → List ℕ
sheet_of k c = result_sheet k (serially k c)
