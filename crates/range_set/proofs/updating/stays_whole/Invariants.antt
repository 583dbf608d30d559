use Rattle.std.proofs.Common.{◌≡◌, Bool, filter, map, take}
use Rattle.range_set.specs.PrivateChunks.{content, shift}
use Rattle.range_set.specs.Updating.{AnswersAs}
use Rattle.range_set.specs.declared.ranged.Ranged.{Ranged}
use Rattle.range_set.proofs.updating.stays_whole.Given as goal

abbrev pub invariant-loop-range : goal.invariant-loop-range
invariant-loop-range g l =
    (p : Ranged g.row.T.Denot → Bool) → AnswersAs g.F.Fn l.keep p → filter p (map (shift l.placed.start) (take l.range-index (content l.placed).ranges)) ≡ map (shift l.placed.start) (take l.range-index (content l.placed).ranges)
