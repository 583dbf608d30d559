use Rattle.std.proofs.Common.{◌≡◌, ◌++◌, drop}
use Rattle.configuration.specs.Present.{compartments_of}
use Rattle.configuration.proofs.present.compartments_of.Given as goal

abbrev pub invariant-loop-slot : goal.invariant-loop-slot
invariant-loop-slot l = l.found.items ++ compartments_of l.nodes (drop l.slot-index l.slots) ≡ compartments_of l.nodes l.slots
