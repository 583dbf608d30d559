use Rattle.std.proofs.Common.{◌≡◌, take, filter_map}
use Rattle.kept_effects.specs.MappedValues.{moved_effect}
use Rattle.kept_effects.proofs.moved.moved_effects.Given as goal

abbrev pub invariant-loop-effect : goal.invariant-loop-effect
invariant-loop-effect l = l.moved ≡ filter_map (moved_effect l.changes) (take l.effect-index l.effects)
