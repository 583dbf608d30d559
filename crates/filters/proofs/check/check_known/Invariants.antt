use Rattle.std.proofs.Common.{drop}
use Rattle.filters.specs.PrivateSteps.{Checks}
use Rattle.filters.proofs.check.check_known.Given as goal

abbrev pub invariant-loop-spec : goal.invariant-loop-spec
invariant-loop-spec l = Checks l.len l.max l.before l.specs l.total l.refusal (drop l.spec-index l.specs)
