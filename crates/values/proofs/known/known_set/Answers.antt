use Rattle.values.proofs.Items.{set_within}
use Rattle.values.proofs.known.known_set.Goals as goal

pub returns : goal.returns
returns c = set_within c.args.set.now c.known.ensures.fit
