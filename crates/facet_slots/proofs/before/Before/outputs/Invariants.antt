use Rattle.std.proofs.Common.{◌≡◌, drop, map}
use Rattle.facet_slots.specs.Setups.{input_node}
use Rattle.facet_slots.specs.Nexts.{kept_outputs}
use Rattle.facet_slots.proofs.before.Before.outputs.Given as goal

abbrev pub invariant-loop-was : goal.invariant-loop-was
invariant-loop-was l =
    kept_outputs l.node (map (input_node l.self.node_defs.now) (drop l.was-index l.self.nodes.now)) l.kept
    ≡ kept_outputs l.node (map (input_node l.self.node_defs.now) l.self.nodes.now) l.self.kept.now
