use Rattle.std.proofs.Common.{◌++◌, ap, subst, sym, ◌∙◌}
use Rattle.stable_order.specs.StableSort.{stable_sort}
use Rattle.range_set.specs.Order.{AllForward, before}
use Rattle.range_set.specs.PrivateChunks.{Ascend}
use Rattle.range_set.specs.PrivateBuilders.{built}
use Rattle.range_set.proofs.RangeOrder.{forward_sort}
use Rattle.range_set.proofs.sorting.put_run.Goals as goal

pub put_all-requires : goal.put_all-requires
put_all-requires g c =
    let order = before g.T.RangeValue.rules in
    let run = c.args.run.now.items in
    let same = ap (λ v. v.items) c.replace-ranges.ensures.value in
    let sorted = c.in_ok-longest.ensures ∙ ap (stable_sort order) same in
    record {
      builder = c.requires.builder;
      order = subst (λ rs. Ascend 0 (built c.args.builder.now ++ rs)) (sym sorted) c.requires.order;
      forward = subst AllForward (sym sorted) (forward_sort g.T.RangeValue.rules run c.requires.forward);
    }
