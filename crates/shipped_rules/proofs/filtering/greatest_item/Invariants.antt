use Rattle.std.proofs.Common.{◌≡◌, take, map, filter_map}
use Rattle.cm_plain.specs.Plain.{datum_of}
use Rattle.values.specs.Combining.{greatest_of}
use Rattle.values.specs.Filtering.{number_item}
use Rattle.shipped_rules.proofs.filtering.greatest_item.Given as goal

abbrev pub invariant-loop-item : goal.invariant-loop-item
invariant-loop-item l = l.greatest ≡ greatest_of (filter_map number_item (map datum_of (take l.item-index l.items)))
