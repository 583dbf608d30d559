use Rattle.std.proofs.Common.{arith}
use Rattle.std.proofs.lemmas.Grind.{common_steps}
use Rattle.values.specs.Updating.{plain_values}
use Rattle.shipped_rules.specs.Effects.{last-is}
use Rattle.shipped_rules.proofs.updating.last_effect.Goals as goal

pub returns-in_ok-try_copy-in-Some : goal.returns-in_ok-try_copy-in-Some
returns-in_ok-try_copy-in-Some c = let e = last-is c.args.old.now (plain_values c.args.view.now.transaction.effects) in grind (arith, common_steps, e)

pub returns-in-None : goal.returns-in-None
returns-in-None c = let e = last-is c.args.old.now (plain_values c.args.view.now.transaction.effects) in grind (arith, common_steps, e)
