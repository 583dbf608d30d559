use Rattle.std.proofs.Common.{◌∙◌, arith}
use Rattle.selection.specs.Selections.{SelectionView}
use Rattle.selection.proofs.Covered.{normal-covered, normal-main}
use Rattle.selection.proofs.CreatedAgain.{created_again}
use Rattle.selection.proofs.selection.Selection.create.Goals as goal

pub returns-clause-covered : goal.returns-clause-covered
returns-clause-covered c = λ place. rw c.in_ok-normal.ensures.selection (normal-covered c.args.ranges.now c.args.main place)

pub returns-clause-main : goal.returns-clause-main
returns-clause-main c = λ place h.
    rw c.in_ok-normal.ensures.selection (normal-main c.args.ranges.now c.args.main place (omega arith) h)

pub returns-clause-unchanged : goal.returns-clause-unchanged
returns-clause-unchanged c = λ h.
    let given : SelectionView = record { ranges = c.args.ranges.now; main = c.args.main } in
    c.in_ok-normal.ensures.selection ∙ created_again given h
