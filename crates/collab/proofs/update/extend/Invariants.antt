use Rattle.std.proofs.Common.{◌≡◌, ◌++◌, take}
use Rattle.collab.proofs.update.extend.Given as goal

abbrev pub invariant-loop-update : goal.invariant-loop-update
invariant-loop-update l = l.to.items ≡ l.fn.to.items ++ take l.update-index l.updates
