use Rattle.std.proofs.Common.{◌≡◌, take, map}
use Rattle.values.specs.Reading.{ranges_in}
use Rattle.shipped_rules.proofs.combining.sets_of.Given as goal

abbrev pub invariant-loop-input : goal.invariant-loop-input
invariant-loop-input l = l.sets.items ≡ map ranges_in (take l.input-index l.inputs)
