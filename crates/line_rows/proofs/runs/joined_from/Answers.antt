use Rattle.std.proofs.Common.{arith}
use Rattle.std.proofs.lemmas.List.{drop_all}
use Rattle.line_rows.proofs.RunSteps.{runs_end}
use Rattle.line_rows.proofs.runs.joined_from.Goals as goal

pub returns : goal.returns
returns c = runs_end c.loop-cell.run _ _ _ _ (drop_all c.loop-cell.cell-index c.args.rest.now (omega arith)) c.in_ok-push.ensures.items c.loop-cell.invariant
