use Rattle.std.proofs.Common.{◌≡◌, ◌+◌, ◌<◌, ◌^◌, ◌++◌, length}
use Rattle.range_set.specs.PrivateChunks.{flat, spread}
use Rattle.range_set.specs.PrivateBuilders.{IsGroupBuilder, grouped}
use Rattle.range_set.proofs.group_builder.GroupBuilder.share_all.Given as goal

abbrev pub invariant-loop-placed : goal.invariant-loop-placed
invariant-loop-placed g l = record {
  builder : IsGroupBuilder g.T.RangeValue.rules l.self;
  room : length (flat (grouped l.self)) + length (flat (spread l.rest)) < 2 ^ 64;
  ranges : grouped l.self ++ spread l.rest ≡ grouped l.fn.self ++ spread l.fn.groups;
}

abbrev pub decreases-loop-placed : goal.decreases-loop-placed
decreases-loop-placed g l = length l.rest
