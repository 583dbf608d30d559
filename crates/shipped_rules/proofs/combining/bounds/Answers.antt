use Rattle.std.proofs.Common.{arith, filter_map}
use Rattle.std.proofs.lemmas.Grind.{common_steps}
use Rattle.values.specs.Combining.{pair_in}
use Rattle.shipped_rules.specs.Items.{bounds-narrowest}
use Rattle.shipped_rules.proofs.combining.bounds.Goals as goal

pub returns-in-Some : goal.returns-in-Some
returns-in-Some c = let e = bounds-narrowest (filter_map pair_in c.args.inputs.now) in grind (arith, common_steps, e)

pub returns-in-None : goal.returns-in-None
returns-in-None c = let e = bounds-narrowest (filter_map pair_in c.args.inputs.now) in grind (arith, common_steps, e)
