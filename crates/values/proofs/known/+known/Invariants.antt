use Rattle.std.proofs.Common.{◌≡◌, ◌+◌, ◌*◌, true, map, take}
use Rattle.cm_plain.specs.Datum.{data_of, depth, deepest}
use Rattle.cm_plain.specs.Plain.{datum_of}
use Rattle.values.specs.InRange.{data_in_range}
use Rattle.values.proofs.known.+known.Given as goal

abbrev pub decreases-known_list : goal.decreases-known_list
decreases-known_list l = deepest (data_of l.list.now) * 2 + 1

abbrev pub decreases-known_plain : goal.decreases-known_plain
decreases-known_plain l = depth (datum_of l.plain.now) * 2

abbrev pub invariant-known_list-loop-item : goal.invariant-known_list-loop-item
invariant-known_list-loop-item l = data_in_range (data_of (map datum_of (take l.item-index l.item-items))) ≡ true
