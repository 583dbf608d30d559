use Rattle.std.proofs.Common.{◌≡◌, ◌≤◌, ◌+◌, ◌++◌, ◌||◌, drop, map}
use Rattle.std.specs.List.{AllByRecursion, list_any}
use Rattle.facet_slots.specs.Setups.{InputNode, input_node}
use Rattle.facet_slots.specs.Lawful.{FitsCombiner}
use Rattle.facet_slots.specs.Nexts.{next_count, next_outputs, next_changed}
use Rattle.facet_slots.specs.Lent.{flags_in, nodes_before, scene_in, values_in}
use Rattle.facet_slots.proofs.next.listed_next_inputs.Given as goal

abbrev pub invariant-loop-node : goal.invariant-loop-node
invariant-loop-node g l = record {
  computed :
      l.inputs.items ++ map (next_outputs g.M.Meanings.rules (scene_in l.draft.kept) l.draft.moved (flags_in l.draft.kept) (values_in l.draft.kept) (nodes_before l.before) l.before.kept.now) (map (input_node l.node_defs) (drop l.node-index l.nodes))
      ≡ map (next_outputs g.M.Meanings.rules (scene_in l.draft.kept) l.draft.moved (flags_in l.draft.kept) (values_in l.draft.kept) (nodes_before l.before) l.before.kept.now) (map (input_node l.node_defs) l.nodes);
  changes :
      (l.changed || list_any (next_changed g.M.Meanings.rules (scene_in l.draft.kept) l.draft.moved (flags_in l.draft.kept) (values_in l.draft.kept) l.facet.compare_input (nodes_before l.before) l.before.kept.now) (map (input_node l.node_defs) (drop l.node-index l.nodes)))
      ≡ list_any (next_changed g.M.Meanings.rules (scene_in l.draft.kept) l.draft.moved (flags_in l.draft.kept) (values_in l.draft.kept) l.facet.compare_input (nodes_before l.before) l.before.kept.now) (map (input_node l.node_defs) l.nodes);
  fit : AllByRecursion (λ (node : InputNode). FitsCombiner g.M.Meanings.rules l.facet.combine node.input) (map (input_node l.node_defs) (drop l.node-index l.nodes));
  cost : l.calls + next_count l.draft.moved (flags_in l.draft.kept) (nodes_before l.before) l.before.kept.now (map (input_node l.node_defs) (drop l.node-index l.nodes))
      ≤ l.initial.calls + next_count l.draft.moved (flags_in l.draft.kept) (nodes_before l.before) l.before.kept.now (map (input_node l.node_defs) l.nodes);
}
