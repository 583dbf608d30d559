use Rattle.std.proofs.Common.{arith}
use Rattle.std.proofs.lemmas.Grind.{common_steps}
use Rattle.values.specs.Reading.{value-datum}
use Rattle.shipped_rules.proofs.guarding.range_item.Goals as goal

pub returns-in-Some : goal.returns-in-Some
returns-in-Some c = rw (value-datum c.args.item.now) (grind (arith, common_steps))

pub returns-in-None : goal.returns-in-None
returns-in-None c = rw (value-datum c.args.item.now) (grind (arith, common_steps))
