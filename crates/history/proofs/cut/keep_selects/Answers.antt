use Rattle.std.proofs.Common.{sym}
use Rattle.history.proofs.Cuts.{rows-kept}
use Rattle.history.proofs.cut.keep_selects.Goals as goal

pub returns-then-rows_fit : goal.returns-then-rows_fit
returns-then-rows_fit c = sym (rows-kept c.args.items (c.rows_fit.ensures c.if-rows_fit.true))
