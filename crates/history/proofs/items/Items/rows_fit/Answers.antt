use Rattle.std.proofs.Common.{◌≡◌, true, subst}
use Rattle.history.specs.PrivateCounts.{rows_fit}
use Rattle.history.proofs.items.Items.rows_fit.Goals as goal

pub returns : goal.returns
returns c = λ fit. subst (λ items. rows_fit items ≡ true) c.tail.ensures (c.rows_fit.ensures fit)
