use Rattle.std.proofs.Common.{◌≡◌, ◌++◌, flat_map, drop}
use Rattle.pieces.specs.Items.{set_items}
use Rattle.pieces.proofs.items.layer_items.Given as goal

abbrev pub invariant-loop-set : goal.invariant-loop-set
invariant-loop-set l = l.items.items ++ flat_map (set_items l.from l.to) (drop l.set-index l.layers) ≡ flat_map (set_items l.from l.to) l.layers
