use Rattle.std.proofs.Common.{◌+◌, ◌<◌, ◌^◌, length, map}
use Rattle.range_set.specs.PrivateChunks.{FitCarried, AreGroups, AreShared, Ascend, flat, spread}
use Rattle.range_set.specs.PrivateBuilders.{IsGroupBuilder, grouped}
use Rattle.range_set.specs.PrivatePages.{further}
use Rattle.range_set.proofs.group_builder.GroupBuilder.share_carried_groups.Given as goal

abbrev pub invariant-loop-placed : goal.invariant-loop-placed
invariant-loop-placed g l = record {
  builder : IsGroupBuilder g.T.RangeValue.rules l.self;
  groups : AreGroups g.T.RangeValue.rules (map (further l.base) l.rest);
  ascend : Ascend l.from (flat (spread (map (further l.base) l.rest)));
  fits : FitCarried l.from l.to l.changed (map (further l.base) l.rest);
  room : length (flat (grouped l.self)) + length (flat (spread (map (further l.base) l.rest))) < 2 ^ 64;
  shared : AreShared l.from l.to l.changed (map (further l.base) l.groups) (map (further l.base) l.rest) (flat (grouped l.fn.self)) (flat (grouped l.self));
}

abbrev pub decreases-loop-placed : goal.decreases-loop-placed
decreases-loop-placed g l = length l.rest
