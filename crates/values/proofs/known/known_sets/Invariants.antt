use Rattle.std.proofs.Common.{◌≡◌, true, take}
use Rattle.std.specs.List.{list_all}
use Rattle.values.specs.InRange.{set_in_range}
use Rattle.values.proofs.known.known_sets.Given as goal

abbrev pub invariant-loop-set : goal.invariant-loop-set
invariant-loop-set l = list_all set_in_range (take l.set-index l.sets) ≡ true
