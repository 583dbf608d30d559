use Rattle.std.proofs.Common.{◌≡◌, length}
use Rattle.range_set.specs.PrivateChunks.{flat}
use Rattle.range_set.proofs.chunk_iter.ChunkIter.next_run.Given as goal

abbrev pub invariant-loop-start : goal.invariant-loop-start
invariant-loop-start g l = flat l.self ≡ flat l.initial.self

abbrev pub decreases-loop-start : goal.decreases-loop-start
decreases-loop-start g l = length l.self
