use Rattle.std.proofs.Common.{◌≡◌, take}
use Rattle.change_set.proofs.change_set.ChangeSet.try_copy.Given as goal

abbrev pub invariant-loop-section : goal.invariant-loop-section
invariant-loop-section l = l.sections.items ≡ take l.section-index l.section-items
