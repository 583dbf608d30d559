use Rattle.std.proofs.Common.{arith}
use Rattle.std.proofs.lemmas.Grind.{common_steps}
use Rattle.std.proofs.lemmas.List.Elements.{filter_map-append}
use Rattle.filters.proofs.effects.moved_effects.Goals as goal

pub loop-effect-preserved-in-Continue-branch-3 : goal.loop-effect-preserved-in-Continue-branch-3
loop-effect-preserved-in-Continue-branch-3 g c = grind (arith, common_steps, filter_map-append)

pub loop-effect-preserved : goal.loop-effect-preserved
loop-effect-preserved g c = grind (arith, common_steps, filter_map-append)
