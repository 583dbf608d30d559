use Rattle.std.proofs.Common.{◌≡◌, drop}
use Rattle.transaction.specs.Refusals.{unknown_effect}
use Rattle.filters.proofs.check.unknown_effect.Given as goal

abbrev pub invariant-loop-spec : goal.invariant-loop-spec
invariant-loop-spec l = unknown_effect l.kinds (drop l.spec-index l.specs) ≡ unknown_effect l.kinds l.specs
