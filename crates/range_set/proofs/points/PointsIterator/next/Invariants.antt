use Rattle.std.proofs.Common.{◌≡◌, length}
use Rattle.range_set.specs.Points.{points_of}
use Rattle.range_set.proofs.points.PointsIterator.next.Given as goal

abbrev pub invariant-loop-range : goal.invariant-loop-range
invariant-loop-range g l = points_of g.T.RangeValue.rules l.self-inside.ranges ≡ points_of g.T.RangeValue.rules l.initial.self-inside.ranges

abbrev pub decreases-loop-range : goal.decreases-loop-range
decreases-loop-range g l = length l.self-inside.ranges
