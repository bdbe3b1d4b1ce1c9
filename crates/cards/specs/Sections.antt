-- A declaration line to read where a section has none.
use Rattle.cards.specs.declared.lines.Declaration.{Declaration}
use Rattle.cards.specs.declared.lines.Access.TheVariants.{Rd}
use Rattle.cards.specs.declared.lines.Level.TheVariants.{Absent}

abbrev pub no_declaration : Declaration
no_declaration = record { line = 0; access = Rd; level = Absent; pointer = 0 }
