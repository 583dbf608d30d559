use Rattle.std.proofs.Common.{arith}
use Rattle.std.proofs.lemmas.Grind.{common_steps}
use Rattle.std.proofs.lemmas.List.Elements.{filter_map-append}
use Rattle.kept_effects.proofs.moved.moved_effects.Goals as goal

pub loop-effect-preserved : goal.loop-effect-preserved
loop-effect-preserved c = grind (arith, common_steps, filter_map-append)
