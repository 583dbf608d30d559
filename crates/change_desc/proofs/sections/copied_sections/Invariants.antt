use Rattle.std.proofs.Common.{◌≡◌, ◌≤◌, take}
use Rattle.change_desc.proofs.sections.copied_sections.Given as goal

abbrev pub invariant-loop-section : goal.invariant-loop-section
invariant-loop-section l = record { copied : l.copies.items ≡ take l.section-index l.section-items; room : 8 ≤ l.copies.capacity }
