use Rattle.std.proofs.Common.{◌≤◌, ◌-◌, [], length, take}
use Rattle.dep_graph.specs.Counting.{IsProgress}
use Rattle.dep_graph.proofs.progress.run.Given as goal

abbrev pub invariant-loop-head : goal.invariant-loop-head
invariant-loop-head l = record {
  head : l.head ≤ length l.order.items;
  progress : IsProgress l.graph.count l.graph.edges.items (take l.head l.order.items) [] l.counts.items l.order.items;
}

abbrev pub decreases-loop-head : goal.decreases-loop-head
decreases-loop-head l = l.graph.count - l.head
