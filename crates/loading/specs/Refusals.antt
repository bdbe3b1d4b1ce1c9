-- The refusals of a text: each case's number, line and word.
use Rattle.std.specs.Prelude.{ℕ, Some, None}
use Rattle.words.specs.declared.tokens.Place.{Place}
use Rattle.words.specs.declared.fault.WordFault.{WordFault}
use Rattle.words.specs.declared.fault.WordFault.TheVariants as W
use Rattle.loading.specs.declared.refusal.LineFault.{LineFault}
use Rattle.loading.specs.declared.refusal.LineFault.TheVariants as L
use Rattle.loading.specs.declared.refusal.LoadRefusal.{LoadRefusal}
use Rattle.loading.specs.declared.refusal.LoadRefusal.TheVariants.{TooLong, Line, TooManyTasks, TooManySteps, Memory}
use Rattle.loading.specs.declared.refusal.Told.{Told}
use Rattle.std.specs.declared.option.Option as Rust

abbrev pub tell : ℕ → ℕ → ℕ → Told
tell n l w = record { number = n; line = l; word = w }

abbrev pub place_of : WordFault → Place
place_of (W.Unfit p) = p
place_of (W.Missing p) = p
place_of (W.Surplus p) = p

-- 2: a line unfit, missing, unended or surplus; 3: a line out of place, too deep, or a statement open at the end; 4: a `point` to no object
abbrev pub line_told : LineFault → Told
line_told (L.Word f) = tell 2 (place_of f).line (place_of f).word
line_told (L.Missing l) = tell 2 l 0
line_told (L.Unended l) = tell 2 l 0
line_told (L.Surplus l) = tell 2 l 0
line_told (L.Misplaced l) = tell 3 l 0
line_told (L.TooDeep l) = tell 3 l 0
line_told (L.Open l) = tell 3 l 0
line_told (L.NoObject l) = tell 4 l 0

-- 1: over 16,384 bytes; 5: more than 64 tasks; 6: more than 1,000,000 steps; want of memory has no number
abbrev pub told : LoadRefusal → Rust.Option Told
told TooLong = Some (tell 1 0 0)
told (Line f) = Some (line_told f)
told TooManyTasks = Some (tell 5 0 0)
told TooManySteps = Some (tell 6 0 0)
told Memory = None
