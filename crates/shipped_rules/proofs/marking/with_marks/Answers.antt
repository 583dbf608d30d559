use Rattle.std.proofs.Common.{arith}
use Rattle.std.proofs.lemmas.Grind.{common_steps}
use Rattle.std.proofs.lemmas.List.Elements.{filter_map-append}
use Rattle.std.proofs.lemmas.List.Sums.{fold-append}
use Rattle.shipped_rules.proofs.marking.with_marks.Goals as goal

pub loop-effect-preserved : goal.loop-effect-preserved
loop-effect-preserved c = grind (arith, common_steps, filter_map-append, fold-append)
