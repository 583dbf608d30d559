use Rattle.std.proofs.Common.{◌≡◌, suc, ◌-◌, length, get_or, sym, ap, ◌∙◌, arith}
use Rattle.stable_order.specs.StableSort.{stable_sort}
use Rattle.range_set.specs.Order.{before}
use Rattle.range_set.specs.Ranking.{before-order}
use Rattle.range_set.proofs.MovedBack.{length-changed, stable_sort-changed}
use Rattle.range_set.proofs.sorting.move_back.Goals as goal

pub loop-at-preserved : goal.loop-at-preserved
loop-at-preserved g c =
    let rules = g.T.RangeValue.rules in
    let xs = c.loop-at.ranges.items in
    let at = c.loop-at.at in
    let a = c.index-in-loop-at.result.now in
    let b = c.index.result.now in
    let inside = c.loop-at.invariant.inside in
    let some = c.loop-at-test.true in
    let next : suc (at - 1) ≡ at = omega (arith, some) in
    let before_it = sym c.is_before.ensures ∙ c.if-is_before.true in
    let is = c.swap.ensures.by_index.3 a in
    let len = ap length is ∙ length-changed xs (at - 1) at (get_or xs at a) (get_or xs (at - 1) a) in
    record {
      inside = omega (arith, inside, len);
      same = ap (stable_sort (before rules)) is
          ∙ (stable_sort-changed (before rules) (before-order rules) xs (at - 1) at a b next inside c.index-in-loop-at.ensures c.index.ensures before_it ∙ c.loop-at.invariant.same);
    }
