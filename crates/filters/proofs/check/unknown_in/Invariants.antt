use Rattle.std.proofs.Common.{◌≡◌, drop}
use Rattle.transaction.specs.Refusals.{unknown_in}
use Rattle.filters.proofs.check.unknown_in.Given as goal

abbrev pub invariant-loop-effect : goal.invariant-loop-effect
invariant-loop-effect l = unknown_in l.kinds (drop l.effect-index l.effects) ≡ unknown_in l.kinds l.effects
