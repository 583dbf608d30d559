use Rattle.std.proofs.Common.{◌≡◌, drop, option_copied}
use Rattle.range_set.specs.Order.{fault_from, first_fault}
use Rattle.range_set.proofs.ranged.look_through.Given as goal

abbrev pub invariant-loop-index : goal.invariant-loop-index
invariant-loop-index g l =
    fault_from g.T.RangeValue.rules l.index (option_copied l.last) (drop l.index l.ranges) ≡ first_fault g.T.RangeValue.rules l.ranges
