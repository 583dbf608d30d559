use Rattle.std.proofs.Common.{◌≡◌, Some, ap, sym, ◌∙◌, arith}
use Rattle.stable_order.proofs.StableSort.{stable_sort-risen}
use Rattle.range_set.specs.Order.{before, first_fault}
use Rattle.range_set.specs.Ranking.{before-order}
use Rattle.range_set.specs.declared.range_error.RangeError.TheVariants as fault
use Rattle.range_set.proofs.MovedBack.{fault_within}
use Rattle.range_set.proofs.RangeOrder.{rises-no_fault}
use Rattle.range_set.proofs.sorting.sort.Goals as goal

pub returns-in_default : goal.returns-in_default
returns-in_default g c =
    let rules = g.T.RangeValue.rules in
    let ranges = c.args.ranges.now.items in
    let none = ap (first_fault rules) (sym c.deref.ensures.value) ∙ (sym c.look_through-fault.ensures.fault ∙ c.in_default.is) in
    sym (stable_sort-risen (before rules) (before-order rules) ranges (rises-no_fault rules ranges none))

pub move_back-requires : goal.move_back-requires
move_back-requires g c =
    let rules = g.T.RangeValue.rules in
    let ranges = c.args.ranges.now.items in
    let index = c.in-NotSorted.index in
    let found : c.look_through-fault.result.fault ≡ Some (fault.NotSorted index) = c.in-Some.is ∙ ap Some c.in-NotSorted.is in
    let within = fault_within rules 0 index _ ranges (ap (first_fault rules) (sym c.deref.ensures.value) ∙ (sym c.look_through-fault.ensures.fault ∙ found)) in
    omega (arith, within)
