use Rattle.std.proofs.Common.{◌≡◌, map, filter_map}
use Rattle.transaction.specs.Inverted.{inverted_effect}
use Rattle.transaction.proofs.inverted.inverted_over.Given as goal

abbrev pub invariant-loop-effect : goal.invariant-loop-effect
invariant-loop-effect g l = l.kept ≡ filter_map (inverted_effect g.V.EffectValue.plain l.kinds.maps l.pairs l.back) (map (λ r. r.now) l.yielded)
