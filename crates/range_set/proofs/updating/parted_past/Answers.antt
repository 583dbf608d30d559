use Rattle.std.proofs.Common.{of_calls, leb, leb-false, arith, subst, sym}
use Rattle.std.proofs.lemmas.List.Sorted.{IsPartitionPoint-from_clause, IsPartitionedBy-leb}
use Rattle.range_set.specs.PrivateChunks.{flat}
use Rattle.range_set.specs.PrivateUpdates.{BeginPast}
use Rattle.range_set.specs.declared.chunk.Placed.{Placed}
use Rattle.range_set.proofs.PartedChunks.{past_dropped, starts_rise}
use Rattle.range_set.proofs.updating.parted_past.Goals as goal

pub returns-clause-past : goal.returns-clause-past
returns-clause-past g c =
    let rules = g.T.RangeValue.rules in
    let ps = c.args.chunks.now in
    let place = c.args.place in
    let begun = c.partition_point-begun.result in
    let parted = IsPartitionedBy-leb (λ (p : Placed g.row.T.Denot). p.start) ps place (starts_rise rules 0 ps c.requires.chunks c.requires.ascend) in
    let point = IsPartitionPoint-from_clause (λ (p : Placed g.row.T.Denot). leb p.start place) ps begun c.partition_point-begun.ensures.partitioned parted (λ a r q k. search of_calls) in
    let count = c.min.ensures in
    let next = c.saturating_add.ensures in
    let fits = c.partition_point-begun.type_inv in
    subst (λ qs. BeginPast place (flat qs)) (sym c.split_at.ensures.back)
    (past_dropped rules 0 place c.min.result ps c.requires.chunks c.requires.ascend (λ d l. leb-false _ _ (point.1 c.min.result d (omega (arith, l, count, next, fits)) l)))
