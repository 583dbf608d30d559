use Rattle.std.proofs.Common.{◌+◌, ◌<◌, ◌^◌, length}
use Rattle.range_set.specs.PrivateChunks.{FitCarried, AreShared, Ascend, flat, spread}
use Rattle.range_set.specs.PrivateBuilders.{IsGroupBuilder, grouped}
use Rattle.range_set.proofs.group_builder.GroupBuilder.share_carried.Given as goal

abbrev pub invariant-loop-base : goal.invariant-loop-base
invariant-loop-base g l = record {
  builder : IsGroupBuilder g.T.RangeValue.rules l.self;
  ascend : Ascend l.from (flat (spread l.rest));
  fits : FitCarried l.from l.to l.changed l.rest;
  room : length (flat (grouped l.self)) + length (flat (spread l.rest)) < 2 ^ 64;
  shared : AreShared l.from l.to l.changed l.fn.groups l.rest (flat (grouped l.fn.self)) (flat (grouped l.self));
}

abbrev pub decreases-loop-base : goal.decreases-loop-base
decreases-loop-base g l = length l.rest
