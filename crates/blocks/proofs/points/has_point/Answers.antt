use Rattle.std.proofs.Common.{sym, ◌∙◌}
use Rattle.blocks.proofs.Plain.{no_point, some_point}
use Rattle.blocks.proofs.points.has_point.Goals as goal

pub returns-in-Some : goal.returns-in-Some
returns-in-Some c = some_point c.args.set.now _ _ (sym c.points.ensures ∙ c.in-Some.ensures.steps)

pub returns-in-None : goal.returns-in-None
returns-in-None c = no_point c.args.set.now (sym c.points.ensures ∙ c.in-None.ensures.steps.0)
