use Rattle.std.proofs.Common.{◌≡◌, drop}
use Rattle.state.specs.Reconfigured.{configures}
use Rattle.state.proofs.reconfigured.configures.Given as goal

abbrev pub invariant-loop-effect : goal.invariant-loop-effect
invariant-loop-effect l = configures (drop l.effect-index l.effects) ≡ configures l.effects
