use Rattle.std.proofs.Common.{◌≡◌, ◌<◌, ◌≤◌, ◌+◌, ℕ, [], length, drop, get_or}
use Rattle.dep_graph.specs.Counting.{left}
use Rattle.dep_graph.proofs.progress.counted.Given as goal

abbrev pub invariant-loop-edge : goal.invariant-loop-edge
invariant-loop-edge l = record {
  as_many : length l.counts.items ≡ l.count;
  small : (v : ℕ) → get_or l.counts.items v 0 ≤ l.edge-index;
  counted : (v : ℕ) → v < l.count → get_or l.counts.items v 0 + left [] v (drop l.edge-index l.edges) ≡ left [] v l.edges;
}
