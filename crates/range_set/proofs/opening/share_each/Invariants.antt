use Rattle.std.proofs.Common.{◌≡◌, ◌++◌, map, take}
use Rattle.range_set.specs.PrivateChunks.{AreChunks, flat, lengthen, shift}
use Rattle.range_set.proofs.opening.share_each.Given as goal

abbrev pub invariant-loop-placed : goal.invariant-loop-placed
invariant-loop-placed g l = record {
  chunks : AreChunks g.T.RangeValue.rules l.made.items;
  ranges : flat l.made.items ≡ flat l.fn.made.items ++ map (shift l.base) (flat (take l.placed-index (map (lengthen l.grown) l.chunks)));
}
