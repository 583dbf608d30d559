use Rattle.std.proofs.Common.{◌≡◌, drop}
use Rattle.transaction.specs.Refusals.{unknown_in}
use Rattle.transaction.proofs.effect.first_unknown.Given as goal

abbrev pub invariant-loop-effect : goal.invariant-loop-effect
invariant-loop-effect g l = unknown_in l.kinds (drop l.effect-index l.effects) ≡ unknown_in l.kinds l.effects
