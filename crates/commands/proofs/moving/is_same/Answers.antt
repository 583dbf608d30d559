use Rattle.history.proofs.Same.{same-is}
use Rattle.commands.proofs.moving.is_same.Goals as goal

pub returns : goal.returns
returns c = same-is c.same.result c.args.left.now c.args.right.now c.same.ensures.0 c.same.ensures.1
