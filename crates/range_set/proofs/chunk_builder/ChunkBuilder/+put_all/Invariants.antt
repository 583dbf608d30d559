use Rattle.std.proofs.Common.{length}
use Rattle.range_set.proofs.chunk_builder.ChunkBuilder.+put_all.Given as goal

abbrev pub decreases-put_all : goal.decreases-put_all
decreases-put_all g l = length l.ranges.items
