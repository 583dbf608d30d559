use Rattle.std.proofs.Common.{◌+◌}
use Rattle.line_tree.proofs.glue.+glue.Given as goal

-- at each call the higher text, or both, give way to a part
abbrev pub decreases-glue : goal.decreases-glue
decreases-glue l = l.left.now.height + l.right.now.height
