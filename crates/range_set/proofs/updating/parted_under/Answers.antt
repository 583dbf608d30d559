use Rattle.std.proofs.Common.{of_calls, ltb, ltb-true, arith, subst, sym}
use Rattle.std.proofs.lemmas.List.Sorted.{IsPartitionPoint-from_clause, IsPartitionedBy-ltb}
use Rattle.range_set.specs.PrivateChunks.{flat}
use Rattle.range_set.specs.PrivateUpdates.{BeginUnder}
use Rattle.range_set.specs.declared.chunk.Placed.{Placed}
use Rattle.range_set.proofs.PartedChunks.{starts_rise, under_taken}
use Rattle.range_set.proofs.updating.parted_under.Goals as goal

pub returns-clause-under : goal.returns-clause-under
returns-clause-under g c =
    let rules = g.T.RangeValue.rules in
    let ps = c.args.chunks.now in
    let place = c.args.place in
    let begun = c.partition_point-begun.result in
    let parted = IsPartitionedBy-ltb (λ (p : Placed g.row.T.Denot). p.start) ps place (starts_rise rules 0 ps c.requires.chunks c.requires.ascend) in
    let point = IsPartitionPoint-from_clause (λ (p : Placed g.row.T.Denot). ltb p.start place) ps begun c.partition_point-begun.ensures.partitioned parted (λ a r q k. search of_calls) in
    let bound = c.partition_point-begun.ensures.bound in
    let count = c.saturating_sub.ensures in
    subst (λ qs. BeginUnder place (flat qs)) (sym c.split_at.ensures.front)
    (under_taken rules 0 place c.saturating_sub.result ps c.requires.chunks c.requires.ascend (omega (arith, bound, count)) (λ k d some le. ltb-true _ _ (point.0 k d (omega arith) (omega (arith, some, le, count)))))
