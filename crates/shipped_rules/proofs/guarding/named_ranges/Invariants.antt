use Rattle.std.proofs.Common.{◌≡◌, take, map, filter_map}
use Rattle.cm_plain.specs.Plain.{datum_of}
use Rattle.values.specs.Guarding.{range_item}
use Rattle.shipped_rules.proofs.guarding.named_ranges.Given as goal

abbrev pub invariant-loop-item : goal.invariant-loop-item
invariant-loop-item l = l.ranges ≡ filter_map range_item (map datum_of (take l.item-index l.items))
