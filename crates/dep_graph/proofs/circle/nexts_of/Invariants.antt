use Rattle.std.proofs.Common.{◌≡◌, ◌<◌, ℕ, None, length, drop, get_or}
use Rattle.dep_graph.specs.Visiting.{least_waiting}
use Rattle.dep_graph.proofs.circle.nexts_of.Given as goal

abbrev pub invariant-loop-edge : goal.invariant-loop-edge
invariant-loop-edge l = record {
  as_many : length l.nexts.items ≡ l.count;
  least : (v : ℕ) → v < l.count → least_waiting l.counts v (get_or l.nexts.items v None) (drop l.edge-index l.edges) ≡ least_waiting l.counts v None l.edges;
}
