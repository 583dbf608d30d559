use Rattle.std.proofs.Common.{length, arith}
use Rattle.line_tree.proofs.Joins.{height_fits}
use Rattle.line_tree.proofs.tree.make_branch.Goals as goal

pub overflow_add-height : goal.overflow_add-height
overflow_add-height c =
    omega (arith, height_fits (length c.as_slice-2.result.now) c.args.height c.breaks_of-breaks.result (omega arith) c.breaks_of-breaks.ensures.tall (omega arith))
