use Rattle.std.proofs.Common.{◌≡◌, ◌++◌, flat_map}
use Rattle.pieces.specs.Shading.{mark_of, touching}
use Rattle.pieces.proofs.shading.push_marks.Given as goal

abbrev pub invariant-loop-range : goal.invariant-loop-range
invariant-loop-range l = l.ranges.items ++ flat_map mark_of l.range-iterator ≡ l.fn.ranges.items ++ flat_map mark_of (touching l.from l.to l.fn.set)
