use Rattle.std.proofs.Common.{◌≡◌, take, filter_map}
use Rattle.values.specs.Combining.{pair_in}
use Rattle.shipped_rules.specs.Items.{narrowest}
use Rattle.shipped_rules.proofs.combining.narrowest.Given as goal

abbrev pub invariant-loop-input : goal.invariant-loop-input
invariant-loop-input l = l.found ≡ narrowest (filter_map pair_in (take l.input-index l.inputs))
