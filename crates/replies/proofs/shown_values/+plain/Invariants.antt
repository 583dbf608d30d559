use Rattle.std.proofs.Common.{◌≡◌, ◌+◌, ◌*◌, map, take}
use Rattle.cm_plain.specs.Datum.{data_of, depth, deepest}
use Rattle.cm_plain.specs.Plain.{datum_of}
use Rattle.serde_json.specs.View.{view}
use Rattle.replies.specs.Shown.{plain_data}
use Rattle.replies.proofs.shown_values.+plain.Given as goal

abbrev pub decreases-plain_list_value : goal.decreases-plain_list_value
decreases-plain_list_value l = deepest (data_of l.list.now) * 2 + 1

abbrev pub decreases-plain_value : goal.decreases-plain_value
decreases-plain_value l = depth (datum_of l.plain.now) * 2

abbrev pub invariant-plain_list_value-loop-item : goal.invariant-plain_list_value-loop-item
invariant-plain_list_value-loop-item l = map view l.values.items ≡ map (λ p. plain_data (datum_of p)) (take l.item-index l.item-items)
