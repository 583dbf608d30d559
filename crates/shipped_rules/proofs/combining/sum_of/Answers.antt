use Rattle.std.proofs.Common.{arith}
use Rattle.std.proofs.lemmas.Grind.{common_steps}
use Rattle.std.proofs.lemmas.List.Elements.{filter_map-append}
use Rattle.shipped_rules.proofs.combining.sum_of.Goals as goal

pub loop-input-preserved : goal.loop-input-preserved
loop-input-preserved c = grind (arith, common_steps, filter_map-append)
