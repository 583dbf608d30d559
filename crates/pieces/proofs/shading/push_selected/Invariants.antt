use Rattle.std.proofs.Common.{◌≡◌, ◌++◌, flat_map, drop}
use Rattle.pieces.specs.Shading.{selected}
use Rattle.pieces.proofs.shading.push_selected.Given as goal

abbrev pub invariant-loop-range : goal.invariant-loop-range
invariant-loop-range l = l.ranges.items ++ flat_map (selected l.from l.to) (drop l.range-index l.given) ≡ l.fn.ranges.items ++ flat_map (selected l.from l.to) l.given
