-- A refusal names the first offence in the order of reading: line by line, a line's words one by one, and then the line as a whole.
use Rattle.std.specs.Prelude.{◌≡◌, ℕ, zero, suc, ◌<◌, ◌≤◌, ◌⊎◌, List, length, take, Ok, Err, Result}
use Rattle.words.specs.Cuts.{after}
use Rattle.words.specs.Tokens.{words}
use Rattle.loading.specs.declared.refusal.LineFault.{LineFault}
use Rattle.loading.specs.declared.refusal.LineFault.TheVariants as F
use Rattle.loading.specs.declared.refusal.LoadRefusal.TheVariants.{TooLong, Line, TooManyTasks, TooManySteps, Memory}
use Rattle.loading.specs.Refusals.{line_told}
use Rattle.loading.specs.Texts.{text_line}
use Rattle.loading.specs.Loading.{Reading, accepted, refused, reading}
use Rattle.written.specs.Offences.{text_fault}

abbrev pub line_of : LineFault → ℕ
line_of e = (line_told e).line

abbrev pub word_of : LineFault → ℕ
word_of e = (line_told e).word

-- Two texts that are the same up to a place.

-- the first line is the same in both, or in both it is missing or not ended
abbrev pub SameLine : List ℕ → List ℕ → Type 0
SameLine s t = (m : ℕ) → text_line s m ≡ text_line t m

abbrev pub SameStart : ℕ → Result (List ℕ) LineFault → Result (List ℕ) LineFault → Type 0
SameStart w (Ok b) (Ok c) = take w (words b) ≡ take w (words c)
SameStart w (Ok b) (Err e) = ⊥
SameStart w (Err e) (Ok c) = ⊥
SameStart w (Err e) (Err f) = ⊥

-- both have a first line, with the same first w words
abbrev pub SameWords : ℕ → List ℕ → List ℕ → Type 0
SameWords w s t = (m : ℕ) → SameStart w (text_line s m) (text_line t m)

-- the first n lines are the same, and the texts after them are as P says
unfoldable pub AfterLines : ℕ → (List ℕ → List ℕ → Type 0) → List ℕ → List ℕ → Type 0
AfterLines zero P s t = P s t
AfterLines (suc n) P s t = SameLine s t × AfterLines n P (after 10 s) (after 10 t)

-- the same through word w of the line, or through the whole line where w is 0
abbrev pub Through : ℕ → List ℕ → List ℕ → Type 0
Through zero s t = SameLine s t
Through (suc w) s t = SameWords (suc w) s t

-- the same before that
abbrev pub UpTo : ℕ → List ℕ → List ℕ → Type 0
UpTo zero s t = Unit {0}
UpTo (suc w) s t = SameWords w s t

-- What comes later.

-- line k, word v is read later than line m, word w; word 0 is the line as a whole, after its words
abbrev pub Later : ℕ → ℕ → ℕ → ℕ → Type 0
Later m w k v = (m < k) ⊎ ((k ≡ m) × (0 < w) × ((v ≡ 0) ⊎ (w < v)))

-- a text is refused at no line, or later than at e
abbrev pub Passes : LineFault → Reading → Type 0
Passes e (accepted c) = Unit {0}
Passes e (refused (Line f)) = Later (line_of e) (word_of e) (line_of f) (word_of f)
Passes e (refused TooManyTasks) = Unit {0}
Passes e (refused TooManySteps) = Unit {0}
Passes e (refused TooLong) = ⊥
Passes e (refused Memory) = ⊥

-- the whole text is at fault, at the line after its last: it goes on, or a statement is open
abbrev pub AtEnd : LineFault → Type 0
AtEnd (F.Word f) = ⊥
AtEnd (F.Missing l) = ⊥
AtEnd (F.Unended l) = ⊥
AtEnd (F.Surplus l) = Unit {0}
AtEnd (F.Misplaced l) = ⊥
AtEnd (F.TooDeep l) = ⊥
AtEnd (F.Open l) = Unit {0}
AtEnd (F.NoObject l) = ⊥

-- a text ends before line m, or is at fault there as a whole
abbrev pub EndsBefore : ℕ → Reading → Type 0
EndsBefore m (accepted c) = Unit {0}
EndsBefore m (refused (Line f)) = AtEnd f × (line_of f ≡ m)
EndsBefore m (refused TooManyTasks) = Unit {0}
EndsBefore m (refused TooManySteps) = Unit {0}
EndsBefore m (refused TooLong) = ⊥
EndsBefore m (refused Memory) = ⊥

-- The law, of a fault e of s with n lines before its own.

-- what stands through the place of e decides, whatever follows
abbrev pub Decided : List ℕ → LineFault → ℕ → Type 0
Decided s e n = (t : List ℕ) → length t ≤ 16_384 → AfterLines n (Through (word_of e)) s t → reading t ≡ refused (Line e)

-- with another word or line in that place a text gets further
abbrev pub Avoidable : List ℕ → LineFault → ℕ → Type 0
Avoidable s e n = (t : List ℕ) × AfterLines n (UpTo (word_of e)) s t × Passes e (reading t)

-- no line may stand there: each text with the same lines before ends there, or is at fault as a whole
abbrev pub Final : List ℕ → LineFault → ℕ → Type 0
Final s e n = AtEnd e × ((t : List ℕ) → length t ≤ 16_384 → AfterLines n (λ _ _. Unit {0}) s t → EndsBefore (line_of e) (reading t))

-- e is the first offence of s: each line before passes where it stands, and e is decided at its place and not before
pub record FirstOffence (s : List ℕ) (e : LineFault) : Type 0 where
  pub judged : text_fault s ≡ Err e
  pub before : ℕ
  pub line : line_of e ≡ suc before
  pub decided : Decided s e before
  pub here : Avoidable s e before ⊎ Final s e before
