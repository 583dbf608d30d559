use Rattle.std.proofs.Common.{◌+◌}
use Rattle.line_tree.proofs.glue.+join.Given as goal

-- at each call the higher text gives way to a part
abbrev pub decreases-join : goal.decreases-join
decreases-join l = l.left.now.height + l.right.now.height
