use Rattle.std.proofs.Common.{◌+◌, ◌<◌, ◌^◌, length}
use Rattle.range_set.specs.PrivateChunks.{Ascend, flat, spread}
use Rattle.range_set.specs.PrivateBuilders.{IsGroupBuilder, grouped}
use Rattle.range_set.specs.PrivateUpdates.{AreSharedBefore}
use Rattle.range_set.proofs.group_builder.GroupBuilder.share_before.Given as goal

abbrev pub invariant-loop-placed : goal.invariant-loop-placed
invariant-loop-placed g l = record {
  builder : IsGroupBuilder g.T.RangeValue.rules l.self;
  ascend : Ascend 0 (flat (spread l.rest));
  room : length (flat (grouped l.self)) + length (flat (spread l.rest)) < 2 ^ 64;
  shared : AreSharedBefore l.place l.fn.groups l.rest (grouped l.fn.self) (grouped l.self);
}

abbrev pub decreases-loop-placed : goal.decreases-loop-placed
decreases-loop-placed g l = length l.rest
