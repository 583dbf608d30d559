use Rattle.std.proofs.Common.{length, map}
use Rattle.range_set.specs.PrivateChunks.{content, shift}
use Rattle.range_set.specs.PrivateUpdates.{TakesBefore}
use Rattle.range_set.proofs.updating.take_before.Given as goal

abbrev pub invariant-loop-next : goal.invariant-loop-next
invariant-loop-next g l =
    TakesBefore g.T.RangeValue.rules (map (shift l.placed.start) (content l.placed).ranges) l.initial.run.items l.initial.added.items l.run.items l.added.items

abbrev pub decreases-loop-next : goal.decreases-loop-next
decreases-loop-next g l = length l.added.items
