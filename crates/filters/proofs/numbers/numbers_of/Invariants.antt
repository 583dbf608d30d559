use Rattle.std.proofs.Common.{◌≡◌, take, map, filter_map}
use Rattle.cm_plain.specs.Plain.{datum_of}
use Rattle.filters.specs.Facets.{rule_number}
use Rattle.filters.proofs.numbers.numbers_of.Given as goal

abbrev pub invariant-loop-item : goal.invariant-loop-item
invariant-loop-item l = l.numbers.items ≡ filter_map rule_number (map datum_of (take l.item-index l.items))
