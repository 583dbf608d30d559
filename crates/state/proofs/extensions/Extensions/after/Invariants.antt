use Rattle.std.proofs.Common.{◌≡◌, drop}
use Rattle.state.specs.Reconfigured.{extensions_after}
use Rattle.state.proofs.extensions.Extensions.after.Given as goal

abbrev pub invariant-loop-effect : goal.invariant-loop-effect
invariant-loop-effect l = extensions_after l.extensions (drop l.effect-index l.effects) ≡ extensions_after l.initial.extensions l.effects
