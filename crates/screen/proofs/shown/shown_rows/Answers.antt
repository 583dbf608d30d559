use Rattle.std.proofs.Common.{length, ap, arith}
use Rattle.blocks.specs.Hiding.{BlocksView}
use Rattle.screen.specs.Screen.{shown_view}
use Rattle.screen.proofs.Counting.{count_shown}
use Rattle.screen.proofs.shown.shown_rows.Goals as goal

pub returns : goal.returns
returns c =
    let v = shown_view c.args.view.now in
    omega (arith, c.rows_within.ensures, c.count.ensures.value, ap (λ (b : BlocksView). length b.blocks) c.in_ok-blocks.ensures, count_shown v v.window.top v.window.rows)
