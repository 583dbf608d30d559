use Rattle.std.proofs.Common.{◌≡◌, drop}
use Rattle.change_desc.specs.Ranges.{changes_nothing}
use Rattle.change_set.proofs.change_set.ChangeSet.is_empty.Given as goal

-- the sections after decide
abbrev pub invariant-loop-section : goal.invariant-loop-section
invariant-loop-section l = changes_nothing (drop l.section-index l.section-items) ≡ changes_nothing l.section-items
