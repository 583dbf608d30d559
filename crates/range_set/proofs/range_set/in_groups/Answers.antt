use Rattle.std.proofs.Common.{◌++◌, length, ap, subst, sym, arith}
use Rattle.range_set.specs.PrivateChunks.{Ascend, flat}
use Rattle.range_set.proofs.RangeOrder.{rises-no_fault}
use Rattle.range_set.proofs.Under.{rises_ascend}
use Rattle.range_set.proofs.range_set.in_groups.Goals as goal

pub put_all-requires : goal.put_all-requires
put_all-requires g c =
    let rules = g.T.RangeValue.rules in
    let ps = c.args.chunks.items in
    let none = c.in_ok-builder.ensures.ranges in
    let count = ap (λ qs. length (flat qs)) none in
    let most = c.requires.room in
    record {
      builder = c.in_ok-builder.ensures.builder;
      chunks = c.requires.chunks;
      room = omega (arith, count, most);
      order = subst (λ qs. Ascend 0 (flat (qs ++ ps))) (sym none) (rises_ascend rules (flat ps) (rises-no_fault rules (flat ps) c.requires.order));
    }
