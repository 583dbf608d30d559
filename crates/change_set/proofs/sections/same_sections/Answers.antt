use Rattle.change_set.proofs.Sameness.{lengths-differ}
use Rattle.change_set.proofs.sections.same_sections.Goals as goal

pub returns-then-mine-theirs : goal.returns-then-mine-theirs
returns-then-mine-theirs c = lengths-differ c.args.mine.now c.args.theirs.now c.if-mine-theirs.true
