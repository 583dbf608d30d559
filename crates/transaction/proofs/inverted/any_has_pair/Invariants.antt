use Rattle.std.proofs.Common.{◌≡◌, drop}
use Rattle.std.specs.List.{list_any}
use Rattle.transaction.specs.PrivatePairs.{has_pair}
use Rattle.transaction.proofs.inverted.any_has_pair.Given as goal

abbrev pub invariant-loop-effect : goal.invariant-loop-effect
invariant-loop-effect g l = list_any (has_pair l.pairs) (drop l.effect-index l.effects) ≡ list_any (has_pair l.pairs) l.effects
