use Rattle.std.proofs.Common.{◌≡◌, filter_map}
use Rattle.transaction.specs.Effects.{moved_effect}
use Rattle.transaction.proofs.effect.moved_effects.Given as goal

abbrev pub invariant-loop-effect : goal.invariant-loop-effect
invariant-loop-effect g l = l.moved ≡ filter_map (moved_effect l.frame.kinds.now (g.M.EffectMaps.map_value l.frame.maps.now) l.changes) l.yielded
