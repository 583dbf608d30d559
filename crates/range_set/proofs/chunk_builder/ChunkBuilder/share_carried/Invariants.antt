use Rattle.std.proofs.Common.{length, map}
use Rattle.range_set.specs.PrivateChunks.{FitCarriedChunks, AreChunks, AreChunksShared, Ascend, flat, move}
use Rattle.range_set.specs.PrivateBuilders.{IsBuilder, built}
use Rattle.range_set.proofs.chunk_builder.ChunkBuilder.share_carried.Given as goal

abbrev pub invariant-loop-placed : goal.invariant-loop-placed
invariant-loop-placed g l = record {
  builder : IsBuilder g.T.RangeValue.rules l.self;
  chunks : AreChunks g.T.RangeValue.rules (map (move l.base) l.rest);
  ascend : Ascend l.from (flat (map (move l.base) l.rest));
  fits : FitCarriedChunks l.from l.to l.changed (map (move l.base) l.rest);
  shared : AreChunksShared l.from l.to l.changed (map (move l.base) l.chunks) (map (move l.base) l.rest) (built l.fn.self) (built l.self);
}

abbrev pub decreases-loop-placed : goal.decreases-loop-placed
decreases-loop-placed g l = length l.rest
