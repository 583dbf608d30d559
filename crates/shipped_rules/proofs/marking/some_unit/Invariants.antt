use Rattle.std.proofs.Common.{◌≡◌, false, take}
use Rattle.std.specs.List.{list_any}
use Rattle.values.specs.declared.shown_effect.ShownEffect.{ShownEffect}
use Rattle.values.specs.Updating.{is_unit}
use Rattle.shipped_rules.proofs.marking.some_unit.Given as goal

abbrev pub invariant-loop-effect : goal.invariant-loop-effect
invariant-loop-effect l = list_any (λ (e : ShownEffect). is_unit e.value) (take l.effect-index l.effects) ≡ false
