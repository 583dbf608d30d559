use Rattle.std.proofs.Common.{length}
use Rattle.range_set.specs.PrivateChunks.{AreChunks}
use Rattle.range_set.proofs.Opened.{OpenUpTo}
use Rattle.range_set.proofs.opening.opened.Given as goal

abbrev pub invariant-loop-start : goal.invariant-loop-start
invariant-loop-start g l = record {
  opened : OpenUpTo l.fn.groups l.rest l.chunks.items;
  chunks : AreChunks g.T.RangeValue.rules l.chunks.items;
}

abbrev pub decreases-loop-start : goal.decreases-loop-start
decreases-loop-start g l = length l.rest
