use Rattle.std.proofs.Common.{◌≡◌, ◌+◌, ◌++◌, Bool, drop, filter, length}
use Rattle.stable_order.specs.StableSort.{stable_sort}
use Rattle.range_set.specs.Order.{before}
use Rattle.range_set.specs.PrivateChunks.{flat}
use Rattle.range_set.specs.PrivateBuilders.{IsBuilder, built}
use Rattle.range_set.specs.Updating.{AnswersAs, updated}
use Rattle.range_set.specs.declared.ranged.Ranged.{Ranged}
use Rattle.range_set.proofs.Updates.{IsUpdating}
use Rattle.range_set.proofs.updating.updated_chunks.Given as goal

abbrev pub invariant-loop-placed : goal.invariant-loop-placed
invariant-loop-placed g l =
    let rules = g.T.RangeValue.rules in
    record {
      builder : IsBuilder rules l.builder;
      updating : IsUpdating rules (length (flat l.chunks) + length l.fn.add.items) (built l.builder) l.run.items (flat (drop l.placed-index l.chunks)) l.added.items;
      goes : (p : Ranged g.row.T.Denot → Bool) → AnswersAs g.F.Fn l.keep p → updated rules p (flat l.chunks) l.fn.add.items
          ≡ built l.builder ++ stable_sort (before rules) (l.run.items ++ (filter p (flat (drop l.placed-index l.chunks)) ++ l.added.items));
    }
