use Rattle.std.proofs.Common.{◌≡◌, filter, length}
use Rattle.range_set.specs.PrivateChunks.{Ascend}
use Rattle.range_set.specs.Updating.{overlaps}
use Rattle.range_set.proofs.between.BetweenIterator.next.Given as goal

abbrev pub invariant-loop-range : goal.invariant-loop-range
invariant-loop-range g l = record {
  same : filter (overlaps l.self-inside.from l.self-inside.to) l.self-inside.ranges
      ≡ filter (overlaps l.initial.self-inside.from l.initial.self-inside.to) l.initial.self-inside.ranges;
  order : Ascend 0 l.self-inside.ranges;
}

abbrev pub decreases-loop-range : goal.decreases-loop-range
decreases-loop-range g l = length l.self-inside.ranges
