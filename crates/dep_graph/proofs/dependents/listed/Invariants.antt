use Rattle.std.proofs.Common.{◌≡◌, ◌<◌, ◌++◌, ℕ, [], length, drop, slice_get}
use Rattle.dep_graph.specs.Counting.{dependents_of, vertices_in}
use Rattle.dep_graph.proofs.dependents.listed.Given as goal

abbrev pub invariant-loop-vertex : goal.invariant-loop-vertex
invariant-loop-vertex l = record {
  as_many : length l.all.items ≡ l._vertex;
  none : (d : ℕ) → vertices_in (slice_get l.all.items d) ≡ [];
}

abbrev pub invariant-loop-edge : goal.invariant-loop-edge
invariant-loop-edge l = record {
  as_many : length l.all.items ≡ l.count;
  listed : (d : ℕ) → d < l.count → vertices_in (slice_get l.all.items d) ++ dependents_of d (drop l.edge-index l.edges) ≡ dependents_of d l.edges;
}
