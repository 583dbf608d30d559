use Rattle.std.proofs.Common.{take, subst, sym}
use Rattle.shipped_rules.specs.Items.{AreItems, items-shallow}
use Rattle.shipped_rules.proofs.combining.items_of.Goals as goal

pub returns-clause-shallow : goal.returns-clause-shallow
returns-clause-shallow c = subst AreItems (sym c.loop-input.invariant) (items-shallow (take c.loop-input.input-index c.args.inputs.now))
