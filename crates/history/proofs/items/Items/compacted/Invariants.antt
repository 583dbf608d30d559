use Rattle.std.proofs.Common.{◌≡◌, ◌++◌, length}
use Rattle.history.proofs.items.Items.compacted.Given as goal

abbrev pub invariant-loop-item : goal.invariant-loop-item
invariant-loop-item l = l.items.items ++ l.rest ≡ l.self

abbrev pub decreases-loop-item : goal.decreases-loop-item
decreases-loop-item l = length l.rest
