use Rattle.std.proofs.Common.{◌++◌, None, subst, sym}
use Rattle.range_set.specs.PrivateChunks.{Ascend}
use Rattle.range_set.proofs.RangeOrder.{forward-no_fault, rises-no_fault}
use Rattle.range_set.proofs.Under.{rises_ascend}
use Rattle.range_set.proofs.range_set.set_of.Goals as goal

pub put_all-requires : goal.put_all-requires
put_all-requires g c =
    let rules = g.T.RangeValue.rules in
    let none = c.new-builder.ensures.ranges in
    record {
      builder = c.new-builder.ensures.builder;
      order = subst (λ xs. Ascend 0 (xs ++ c.args.ranges.items)) (sym none) (rises_ascend rules c.args.ranges.items (rises-no_fault rules c.args.ranges.items c.requires));
      forward = forward-no_fault rules 0 None c.args.ranges.items c.requires;
    }
