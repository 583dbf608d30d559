use Rattle.std.proofs.Common.{◌≡◌, ◌++◌, map, length}
use Rattle.range_set.specs.PrivateChunks.{AreChunks, lengthen, move, spread}
use Rattle.range_set.proofs.chunk_iter.ChunkIter.next_chunk.Given as goal

abbrev pub invariant-loop-next : goal.invariant-loop-next
invariant-loop-next g l = record {
  same : map (move l.self-inside.base) (map (lengthen l.self-inside.grown) l.self-inside.chunks.now) ++ spread l.self-inside.groups
      ≡ map (move l.initial.self-inside.base) (map (lengthen l.initial.self-inside.grown) l.initial.self-inside.chunks.now) ++ spread l.initial.self-inside.groups;
  left : AreChunks g.T.RangeValue.rules (map (move l.self-inside.base) (map (lengthen l.self-inside.grown) l.self-inside.chunks.now));
}

abbrev pub decreases-loop-next : goal.decreases-loop-next
decreases-loop-next g l = length l.self-inside.groups
