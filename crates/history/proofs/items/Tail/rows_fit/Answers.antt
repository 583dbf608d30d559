use Rattle.std.proofs.Common.{◌≡◌, true, sym, subst, ◌∙◌}
use Rattle.history.specs.PrivateCounts.{rows_fit}
use Rattle.history.proofs.Cuts.{rows-cut}
use Rattle.history.proofs.items.Tail.rows_fit.Goals as goal

pub returns : goal.returns
returns c = λ fit. subst (λ items. rows_fit items ≡ true) c.self.view_is (rows-cut c.self.inside.len c.self.inside.chain.now (sym c.rows_fit.ensures ∙ fit))
