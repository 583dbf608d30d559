use Rattle.std.proofs.Common.{◌≡◌, take}
use Rattle.facet_slots.proofs.definitions.nodes_copy.Given as goal

abbrev pub invariant-loop-node : goal.invariant-loop-node
invariant-loop-node l = l.copy ≡ take l.node-index l.nodes
