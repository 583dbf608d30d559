use Rattle.std.proofs.Common.{◌++◌, ◌+◌, map, length}
use Rattle.range_set.specs.PrivateChunks.{AreChunks, lengthen, move, spread}
use Rattle.range_set.proofs.Passing.{HaveNoPoint}
use Rattle.range_set.proofs.chunk_iter.ChunkIter.pass_without_point.Given as goal

abbrev pub invariant-loop-first : goal.invariant-loop-first
invariant-loop-first g l = record {
  passed : HaveNoPoint g.T.RangeValue.rules (map (move l.initial.self-inside.base) (map (lengthen l.initial.self-inside.grown) l.initial.self-inside.chunks.now) ++ spread l.initial.self-inside.groups)
      (map (move l.self-inside.base) (map (lengthen l.self-inside.grown) l.self-inside.chunks.now) ++ spread l.self-inside.groups);
  left : AreChunks g.T.RangeValue.rules (map (move l.self-inside.base) (map (lengthen l.self-inside.grown) l.self-inside.chunks.now));
}

abbrev pub decreases-loop-first : goal.decreases-loop-first
decreases-loop-first g l = length (map (move l.self-inside.base) (map (lengthen l.self-inside.grown) l.self-inside.chunks.now) ++ spread l.self-inside.groups) + length l.self-inside.groups
