use Rattle.std.proofs.Common.{◌≡◌, map, take}
use Rattle.change_desc.specs.Sections.{turned}
use Rattle.change_desc.proofs.sections.inverted_sections.Given as goal

abbrev pub invariant-loop-section : goal.invariant-loop-section
invariant-loop-section l = l.back.items ≡ map turned (take l.section-index l.section-items)
