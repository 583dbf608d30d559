use Rattle.std.proofs.Common.{◌≡◌, length}
use Rattle.history.specs.Items.{older}
use Rattle.history.proofs.items.Items.older.Given as goal

abbrev pub invariant-loop-item : goal.invariant-loop-item
invariant-loop-item l = older l.rest ≡ older l.self

abbrev pub decreases-loop-item : goal.decreases-loop-item
decreases-loop-item l = length l.rest
