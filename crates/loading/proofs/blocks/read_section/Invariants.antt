use Rattle.std.proofs.Common.{◌≡◌, [], length}
use Rattle.loading.specs.Texts.{upcoming}
use Rattle.loading.specs.Blocks.{Forward, section_of, read_section}
use Rattle.loading.proofs.blocks.read_section.Given as goal

abbrev pub invariant-loop-section : goal.invariant-loop-section
invariant-loop-section l = record {
  value : read_section l.initial.lines.header l.kind [] (upcoming l.initial.lines) l.initial.lines.line ≡ read_section l.lines.header l.kind (section_of l.section) (upcoming l.lines) l.lines.line;
  forward : Forward l.initial.lines l.lines;
}

abbrev pub decreases-loop-section : goal.decreases-loop-section
decreases-loop-section l = length (upcoming l.lines)
