use Rattle.std.proofs.Common.{◌≡◌, take, filter_map}
use Rattle.values.specs.Computing.{number_read}
use Rattle.values.specs.Reading.{sum_of}
use Rattle.shipped_rules.proofs.computing.sum_of.Given as goal

abbrev pub invariant-loop-value : goal.invariant-loop-value
invariant-loop-value l = l.sum ≡ sum_of (filter_map number_read (take l.value-index l.values))
