use Rattle.std.proofs.Common.{◌≡◌, ◌++◌, flat_map}
use Rattle.pieces.specs.Items.{item_of, set_items}
use Rattle.pieces.proofs.items.push_items.Given as goal

abbrev pub invariant-loop-range : goal.invariant-loop-range
invariant-loop-range l = l.items.items ++ flat_map (item_of l.from) l.range-iterator ≡ l.fn.items.items ++ set_items l.from l.to l.fn.set
