use Rattle.std.proofs.Common.{arith}
use Rattle.std.proofs.lemmas.Grind.{common_steps}
use Rattle.std.proofs.lemmas.List.Elements.{filter_map-append}
use Rattle.filters.proofs.view.taken_effects.Goals as goal

pub loop-effect-preserved-in-Continue-1 : goal.loop-effect-preserved-in-Continue-1
loop-effect-preserved-in-Continue-1 c = grind (arith, common_steps, filter_map-append)

pub loop-effect-preserved : goal.loop-effect-preserved
loop-effect-preserved c = grind (arith, common_steps, filter_map-append)
