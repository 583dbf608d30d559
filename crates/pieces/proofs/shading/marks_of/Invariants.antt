use Rattle.std.proofs.Common.{◌≡◌, drop}
use Rattle.pieces.specs.Shading.{marks_of}
use Rattle.pieces.proofs.shading.marks_of.Given as goal

abbrev pub invariant-loop-i : goal.invariant-loop-i
invariant-loop-i l = l.ranges.items ≡ marks_of l.from l.to (drop l.i l.sets)
