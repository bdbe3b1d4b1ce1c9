-- The sheet of a text: the card's sheet under the kind that it names, or the refusal's.
use Rattle.std.specs.Prelude.{ℕ, List, [], Some, None, Option}
use Rattle.kinds.specs.Kinds.{Kind}
use Rattle.kinds.specs.Values.{tally, flags}
use Rattle.cards.specs.declared.lines.KindName.{KindName}
use Rattle.cards.specs.declared.lines.KindName.TheVariants.{Tally, Flags}
use Rattle.cards.specs.Code.{Card}
use Rattle.loading.specs.declared.refusal.Told.{Told}
use Rattle.loading.specs.Refusals.{told}
use Rattle.loading.specs.Loading.{Reading, accepted, refused, reading}
use Rattle.sheets.specs.Sheets.{sheet_of, refused_sheet}

-- the kind that a card names
abbrev pub kind_of : KindName → Kind
kind_of Tally = tally
kind_of Flags = flags

abbrev pub card_sheet : Card → List ℕ
card_sheet c = sheet_of (kind_of c.kind) c

-- a text is never refused for want of memory
abbrev pub told_sheet : Option Told → List ℕ
told_sheet (Some t) = refused_sheet t.number t.line t.word
told_sheet None = []

abbrev pub reading_sheet : Reading → List ℕ
reading_sheet (accepted c) = card_sheet c
reading_sheet (refused e) = told_sheet (told e)

unfoldable pub text_sheet : List ℕ → List ℕ
text_sheet s = reading_sheet (reading s)
