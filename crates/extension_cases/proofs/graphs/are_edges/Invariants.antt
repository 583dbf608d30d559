use Rattle.std.proofs.Common.{◌<◌, ℕ, get_or}
use Rattle.dep_graph.specs.declared.edge.Edge.{Edge}
use Rattle.dep_graph.specs.Order.{IsEdge}
use Rattle.extension_cases.proofs.graphs.are_edges.Given as goal

abbrev pub invariant-loop-edge : goal.invariant-loop-edge
invariant-loop-edge l = (k : ℕ) (d : Edge) → k < l.edge-index → IsEdge l.count (get_or l.edges k d)
