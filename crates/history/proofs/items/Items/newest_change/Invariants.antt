use Rattle.std.proofs.Common.{◌≡◌, length}
use Rattle.history.specs.Items.{newest_change}
use Rattle.history.proofs.items.Items.newest_change.Given as goal

abbrev pub invariant-loop-item : goal.invariant-loop-item
invariant-loop-item l = newest_change l.rest ≡ newest_change l.self

abbrev pub decreases-loop-item : goal.decreases-loop-item
decreases-loop-item l = length l.rest
