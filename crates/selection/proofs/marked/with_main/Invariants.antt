use Rattle.std.proofs.Common.{◌≡◌, ◌++◌, drop}
use Rattle.selection.specs.Selections.{marked_from}
use Rattle.selection.proofs.marked.with_main.Given as goal

abbrev pub invariant-loop-i : goal.invariant-loop-i
invariant-loop-i l = l.marks.items ++ marked_from l.i l.main (drop l.i l.ranges) ≡ marked_from 0 l.main l.ranges
