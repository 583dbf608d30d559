use Rattle.std.proofs.Common.{◌≡◌, take, filter_map}
use Rattle.values.specs.Reading.{number_in, sum_of}
use Rattle.shipped_rules.proofs.combining.sum_of.Given as goal

abbrev pub invariant-loop-input : goal.invariant-loop-input
invariant-loop-input l = l.sum ≡ sum_of (filter_map number_in (take l.input-index l.inputs))
