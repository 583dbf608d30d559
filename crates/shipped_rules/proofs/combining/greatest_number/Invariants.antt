use Rattle.std.proofs.Common.{◌≡◌, take, filter_map}
use Rattle.values.specs.Combining.{greatest_of}
use Rattle.values.specs.Reading.{number_in}
use Rattle.shipped_rules.proofs.combining.greatest_number.Given as goal

abbrev pub invariant-loop-input : goal.invariant-loop-input
invariant-loop-input l = l.greatest ≡ greatest_of (filter_map number_in (take l.input-index l.inputs))
