use Rattle.std.proofs.Common.{◌≡◌, ◌++◌, length}
use Rattle.history.specs.Items.{keep_selects, most_selects}
use Rattle.history.proofs.cut.cut_rows.Given as goal

abbrev pub invariant-loop-item : goal.invariant-loop-item
invariant-loop-item l = l.kept.items ++ keep_selects l.room l.rest ≡ keep_selects most_selects l.items

abbrev pub decreases-loop-item : goal.decreases-loop-item
decreases-loop-item l = length l.rest
