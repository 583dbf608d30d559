use Rattle.std.proofs.Common.{◌≡◌, drop}
use Rattle.serde_json.specs.View.{items_view}
use Rattle.script.specs.Values.{values_of}
use Rattle.script.proofs.Gathered.{onto}
use Rattle.script.proofs.value_reading.+value.Given as goal

abbrev pub invariant-list_of-loop-item : goal.invariant-list_of-loop-item
invariant-list_of-loop-item l = onto l.values.items (values_of (items_view (drop l.item-index l.items))) ≡ values_of (items_view l.items)
