-- What a level of declaration allows.
use Rattle.std.specs.Prelude.{Bool, true, false}
use Rattle.cards.specs.declared.lines.Level.{Level}
use Rattle.cards.specs.declared.lines.Level.TheVariants.{Absent, Deferred, Immediate}

-- deferred or immediate
abbrev pub held : Level → Bool
held Absent = false
held Deferred = true
held Immediate = true

abbrev pub is_immediate : Level → Bool
is_immediate Absent = false
is_immediate Deferred = false
is_immediate Immediate = true
