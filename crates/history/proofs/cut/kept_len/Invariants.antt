use Rattle.std.proofs.Common.{◌≡◌, ◌+◌, length}
use Rattle.history.specs.Items.{keep_changes}
use Rattle.history.proofs.cut.kept_len.Given as goal

abbrev pub invariant-loop-item : goal.invariant-loop-item
invariant-loop-item l = length (keep_changes l.count l.items) + length l.rest ≡ length l.items + length (keep_changes l.room l.rest)

abbrev pub decreases-loop-item : goal.decreases-loop-item
decreases-loop-item l = length l.rest
