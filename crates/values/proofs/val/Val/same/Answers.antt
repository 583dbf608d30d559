use Rattle.values.specs.Equality.{test_is}
use Rattle.values.proofs.val.Val.same.Goals as goal

pub returns-clause-value : goal.returns-clause-value
returns-clause-value c = test_is c.same_parts.result c.args.self.now c.args.other.now c.same_parts.ensures
