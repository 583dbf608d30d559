use Rattle.std.proofs.Common.{◌≡◌, ◌++◌, drop, flat_map}
use Rattle.configuration.specs.Pairs.{input_pairs}
use Rattle.configuration.proofs.pairs.push_inputs.Given as goal

abbrev pub invariant-loop-node : goal.invariant-loop-node
invariant-loop-node g l = l.edges.items ++ flat_map (input_pairs l.counts.facets l.counts.fields l.node_defs l.facet) (drop l.node-index l.nodes) ≡ l.initial.edges.items ++ flat_map (input_pairs l.counts.facets l.counts.fields l.node_defs l.facet) l.nodes
