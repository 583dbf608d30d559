use Rattle.std.proofs.Common.{◌≡◌, ◌↔◌, length}
use Rattle.history.proofs.items.Items.same.Given as goal

abbrev pub invariant-loop-a : goal.invariant-loop-a
invariant-loop-a l = (l.left ≡ l.right) ↔ (l.self ≡ l.other)

abbrev pub decreases-loop-a : goal.decreases-loop-a
decreases-loop-a l = length l.left
