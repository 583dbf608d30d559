use Rattle.std.proofs.Common.{◌≡◌, ◌+◌, drop}
use Rattle.change_desc.specs.Sections.{counted, new_size}
use Rattle.change_desc.proofs.sections.new_len.Given as goal

abbrev pub invariant-loop-section : goal.invariant-loop-section
invariant-loop-section l = l.len + new_size counted (drop l.section-index l.sections) ≡ new_size counted l.sections
