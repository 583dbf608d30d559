use Rattle.std.proofs.Common.{◌≡◌, ◌+◌, drop}
use Rattle.change_desc.specs.Sections.{old_size}
use Rattle.change_desc.proofs.sections.old_len.Given as goal

abbrev pub invariant-loop-section : goal.invariant-loop-section
invariant-loop-section l = l.len + old_size (drop l.section-index l.sections) ≡ old_size l.sections
