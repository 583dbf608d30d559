use Rattle.std.proofs.Common.{ap, sym, ◌∙◌}
use Rattle.stable_order.proofs.StableSort.{stable_sort-risen}
use Rattle.range_set.specs.Order.{before, first_fault}
use Rattle.range_set.specs.Ranking.{before-order}
use Rattle.range_set.proofs.RangeOrder.{rises-no_fault}
use Rattle.range_set.proofs.sorting.sort_unless_sorted.Goals as goal

pub returns-in-None : goal.returns-in-None
returns-in-None g c =
    let rules = g.T.RangeValue.rules in
    let ranges = c.args.ranges.now.items in
    let none = ap (first_fault rules) (sym c.deref.ensures.value) ∙ (sym c.look_through-fault.ensures.fault ∙ c.in-None.is) in
    sym (stable_sort-risen (before rules) (before-order rules) ranges (rises-no_fault rules ranges none))
