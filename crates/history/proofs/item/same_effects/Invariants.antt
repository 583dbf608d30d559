use Rattle.std.proofs.Common.{◌≡◌, length, take}
use Rattle.history.proofs.item.same_effects.Given as goal

abbrev pub invariant-loop-a : goal.invariant-loop-a
invariant-loop-a l = take (length l.yielded) l.left ≡ take (length l.yielded) l.right
