use Rattle.std.proofs.Common.{sym, ◌∙◌}
use Rattle.cells.proofs.Widths.{tab_text, tab_length}
use Rattle.cells.proofs.cluster.is_tab.Goals as goal

pub returns-clause-value : goal.returns-clause-value
returns-clause-value c = c.eq.ensures ∙ tab_text c.args.cluster.now c.utf8.cluster

pub returns-clause-one : goal.returns-clause-one
returns-clause-one c = λ yes. tab_length c.args.cluster.now (sym c.eq.ensures ∙ yes)
