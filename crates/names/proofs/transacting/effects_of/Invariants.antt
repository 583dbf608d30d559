use Rattle.std.proofs.Common.{◌≡◌}
use Rattle.names.specs.Names.{each_of}
use Rattle.names.specs.Transacting.{effect_of}
use Rattle.names.proofs.Each.{with_prefix}
use Rattle.names.proofs.transacting.effects_of.Given as goal

abbrev pub invariant-loop-effect : goal.invariant-loop-effect
invariant-loop-effect l = with_prefix l.known.items (each_of (effect_of l.names) l.effect-iterator.rest.items) ≡ each_of (effect_of l.names) l.fn.effects
