use Rattle.std.proofs.Common.{◌<◌, ◌+◌, length, drop, take}
use Rattle.dep_graph.specs.Counting.{IsProgress}
use Rattle.dep_graph.proofs.progress.settle.Given as goal

abbrev pub invariant-loop-dependent : goal.invariant-loop-dependent
invariant-loop-dependent l = record {
  head : l.head < length l.order.items;
  progress : IsProgress l.graph.count l.graph.edges.items (take (l.head + 1) l.order.items) (drop l.dependent-index l.dependents) l.counts.items l.order.items;
}
