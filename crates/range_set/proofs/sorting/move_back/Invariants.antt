use Rattle.std.proofs.Common.{◌≡◌, ◌<◌, length}
use Rattle.stable_order.specs.StableSort.{stable_sort}
use Rattle.range_set.specs.Order.{before}
use Rattle.range_set.proofs.sorting.move_back.Given as goal

abbrev pub invariant-loop-at : goal.invariant-loop-at
invariant-loop-at g l = record {
  inside : l.at < length l.ranges.items;
  same : stable_sort (before g.T.RangeValue.rules) l.ranges.items ≡ stable_sort (before g.T.RangeValue.rules) l.fn.ranges.items;
}

abbrev pub decreases-loop-at : goal.decreases-loop-at
decreases-loop-at g l = l.at
