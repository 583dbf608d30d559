use Rattle.std.proofs.Common.{◌+◌}
use Rattle.screen.specs.Screen.{changed, drawn, shown_view}
use Rattle.screen.proofs.Changes.{Spent}
use Rattle.screen.proofs.screen.redrawn.Given as goal

abbrev pub invariant-loop-i : goal.invariant-loop-i
invariant-loop-i g l =
    Spent (shown_view l.view) (shown_view l.view).window.top l.i (shown_view l.view).window.rows l.old l.rows.items l.laid
    (l.fn.laid + changed l.old (drawn (shown_view l.view)))
