use Rattle.std.proofs.Common.{arith}
use Rattle.std.proofs.lemmas.Grind.{common_steps}
use Rattle.shipped_rules.specs.Lists.{plain-values}
use Rattle.shipped_rules.proofs.listing.values_of.Goals as goal

pub returns : goal.returns
returns c = let e = plain-values c.args.items.now in grind (arith, common_steps, e)
