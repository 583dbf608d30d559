use Rattle.std.proofs.Common.{◌≡◌, ◌++◌, length}
use Rattle.history.proofs.items.with_all.Given as goal

abbrev pub invariant-loop-item : goal.invariant-loop-item
invariant-loop-item l = l.newer.items ++ l.all ≡ l.fn.newer.items ++ l.fn.others

abbrev pub decreases-loop-item : goal.decreases-loop-item
decreases-loop-item l = length l.newer.items
