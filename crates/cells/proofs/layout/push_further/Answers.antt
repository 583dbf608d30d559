use Rattle.std.proofs.Common.{arith}
use Rattle.cells.proofs.Layouts.{rests_step}
use Rattle.cells.proofs.layout.push_further.Goals as goal

pub loop-before-preserved : goal.loop-before-preserved
loop-before-preserved c =
    rests_step c.loop-before.cells.items _ _ c.loop-before.before c.args.width (omega arith) (rw (← c.further.ensures) c.in_ok-push.ensures.items) c.loop-before.invariant
