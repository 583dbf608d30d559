use Rattle.std.proofs.Common.{◌≡◌, drop}
use Rattle.change_desc.specs.Ranges.{changes_nothing}
use Rattle.change_desc.proofs.ranges.changes_nothing.Given as goal

abbrev pub invariant-loop-section : goal.invariant-loop-section
invariant-loop-section l = changes_nothing (drop l.section-index l.sections) ≡ changes_nothing l.sections
