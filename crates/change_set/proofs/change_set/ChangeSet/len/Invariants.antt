use Rattle.std.proofs.Common.{◌≡◌, ◌+◌, drop}
use Rattle.change_desc.specs.Sections.{old_size}
use Rattle.change_set.proofs.change_set.ChangeSet.len.Given as goal

-- what is counted and what is left are the whole
abbrev pub invariant-loop-section : goal.invariant-loop-section
invariant-loop-section l = l.len + old_size (drop l.section-index l.section-items) ≡ old_size l.section-items
