use Rattle.std.proofs.Common.{◌≡◌, drop}
use Rattle.serde_json.specs.View.{items_view}
use Rattle.script.specs.Reading.{each}
use Rattle.script.proofs.Each.{with_prefix}
use Rattle.script.proofs.item.read_each.Given as goal

abbrev pub invariant-loop-item : goal.invariant-loop-item
invariant-loop-item g l = with_prefix l.list.items (each (g.T.Item.item_of l.name) (items_view (drop l.item-index l.items))) ≡ each (g.T.Item.item_of l.name) (items_view l.items)
