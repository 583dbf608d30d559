use Rattle.std.proofs.Common.{◌≡◌, filter_map}
use Rattle.transaction.specs.Effects.{moved_effect}
use Rattle.filters.proofs.effects.moved_effects.Given as goal

abbrev pub invariant-loop-effect : goal.invariant-loop-effect
invariant-loop-effect g l = l.moved ≡ filter_map (moved_effect l.kinds g.M.Meanings.rules.map_effect l.changes) l.yielded
