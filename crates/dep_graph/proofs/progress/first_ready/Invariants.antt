use Rattle.std.proofs.Common.{◌≡◌}
use Rattle.dep_graph.specs.Counting.{ready_below}
use Rattle.dep_graph.proofs.progress.first_ready.Given as goal

abbrev pub invariant-loop-vertex : goal.invariant-loop-vertex
invariant-loop-vertex l = l.order.items ≡ ready_below l.counts l.vertex
