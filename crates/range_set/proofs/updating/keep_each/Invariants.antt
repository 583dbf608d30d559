use Rattle.std.proofs.Common.{◌≡◌, ◌++◌, Bool, filter, map, take}
use Rattle.range_set.specs.PrivateChunks.{content, shift}
use Rattle.range_set.specs.PrivateUpdates.{KeepsPart}
use Rattle.range_set.specs.Updating.{AnswersAs}
use Rattle.range_set.specs.declared.ranged.Ranged.{Ranged}
use Rattle.range_set.proofs.updating.keep_each.Given as goal

abbrev pub invariant-loop-range : goal.invariant-loop-range
invariant-loop-range g l =
    let seen = map (shift l.placed.start) (take l.range-index (content l.placed).ranges) in
    record {
      kept : (p : Ranged g.row.T.Denot → Bool) → AnswersAs g.F.Fn l.keep p → l.run.items ≡ l.fn.run.items ++ filter p seen;
      part : KeepsPart seen l.fn.run.items l.run.items;
    }
