use Rattle.std.proofs.Common.{◌≡◌, ◌+◌, drop}
use Rattle.change_desc.specs.Sections.{spelled, new_size}
use Rattle.change_set.proofs.change_set.ChangeSet.new_len.Given as goal

-- what is counted and what is left are the whole
abbrev pub invariant-loop-section : goal.invariant-loop-section
invariant-loop-section l = l.len + new_size spelled (drop l.section-index l.section-items) ≡ new_size spelled l.section-items
