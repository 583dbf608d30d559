use Rattle.std.proofs.Common.{◌≡◌, ◌≤◌, ◌+◌, ◌++◌, map, drop}
use Rattle.std.specs.List.{AllByRecursion}
use Rattle.facet_slots.specs.Setups.{InputNode, input_node}
use Rattle.facet_slots.specs.FacetValues.{node_outputs}
use Rattle.facet_slots.specs.Keeping.{held}
use Rattle.facet_slots.specs.Lawful.{FitsCombiner}
use Rattle.facet_slots.specs.Due.{calls_of}
use Rattle.facet_slots.specs.Found.{scene_of}
use Rattle.facet_slots.proofs.outputs.all_outputs.Given as goal

abbrev pub invariant-loop-node : goal.invariant-loop-node
invariant-loop-node g l = record {
  found :
      l.found.items ++ map (node_outputs g.M.Meanings.rules (scene_of l.scene) (held l.shelf.facets l.shelf.fields)) (map (input_node l.node_defs) (drop l.node-index l.nodes))
      ≡ map (node_outputs g.M.Meanings.rules (scene_of l.scene) (held l.shelf.facets l.shelf.fields)) (map (input_node l.node_defs) l.nodes);
  fit : AllByRecursion (λ (node : InputNode). FitsCombiner g.M.Meanings.rules l.facet.combine node.input) (map (input_node l.node_defs) (drop l.node-index l.nodes));
  cost : l.calls + calls_of (map (input_node l.node_defs) (drop l.node-index l.nodes)) ≤ l.initial.calls + calls_of (map (input_node l.node_defs) l.nodes);
}
