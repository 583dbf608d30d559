use Rattle.std.proofs.Common.{◌≡◌, map, take}
use Rattle.selection.specs.Selections.{range_of}
use Rattle.selection.proofs.marked.ranges_of.Given as goal

abbrev pub invariant-loop-mark : goal.invariant-loop-mark
invariant-loop-mark l = l.ranges.items ≡ map range_of (take l.mark-index l.marks)
