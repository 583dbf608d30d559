use Rattle.std.proofs.Common.{arith}
use Rattle.screen.specs.Screen.{shown_view}
use Rattle.screen.proofs.Changes.{spent_step, spent_fails, spent_rows}
use Rattle.screen.proofs.screen.redrawn.Goals as goal

pub returns-in_err-row-clause-bound : goal.returns-in_err-row-clause-bound
returns-in_err-row-clause-bound g c =
    let bound = rw c.top-top.ensures at c.in_err-row.ensures.bound in
    spent_fails (shown_view c.args.view.now) _ c.loop-i.i _ c.args.old.now _ _ _ _ _ (omega arith) c.row_at.ensures bound c.loop-i.invariant

pub returns-in_err-push-clause-bound : goal.returns-in_err-push-clause-bound
returns-in_err-push-clause-bound g c =
    let bound = rw c.top-top.ensures at c.in_ok-row.ensures.bound in
    spent_fails (shown_view c.args.view.now) _ c.loop-i.i _ c.args.old.now _ _ _ _ _ (omega arith) c.row_at.ensures bound c.loop-i.invariant

pub loop-i-preserved : goal.loop-i-preserved
loop-i-preserved g c =
    let bound = rw c.top-top.ensures at c.in_ok-row.ensures.bound in
    let value = rw c.top-top.ensures at c.in_ok-row.ensures.value in
    spent_step (shown_view c.args.view.now) _ c.loop-i.i _ c.args.old.now _ _ _ _ _ _ (omega arith) c.row_at.ensures bound
    (rw (← value) c.in_ok-push.ensures.items) c.loop-i.invariant

pub returns-clause-rows : goal.returns-clause-rows
returns-clause-rows g c = spent_rows (shown_view c.args.view.now) _ c.loop-i.i _ c.args.old.now _ _ _ (omega arith) c.loop-i.invariant
