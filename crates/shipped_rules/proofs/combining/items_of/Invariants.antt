use Rattle.std.proofs.Common.{◌≡◌, take, map}
use Rattle.cm_plain.specs.Plain.{datum_of}
use Rattle.values.specs.Reading.{item, plain_or_unit}
use Rattle.shipped_rules.proofs.combining.items_of.Given as goal

abbrev pub invariant-loop-input : goal.invariant-loop-input
invariant-loop-input l = map datum_of l.items.items ≡ map (λ v. item (plain_or_unit v)) (take l.input-index l.inputs)
