use Rattle.std.proofs.Common.{sum_by}
use Rattle.dep_graph.specs.Visiting.{IsVisiting, unmarked}
use Rattle.dep_graph.proofs.circle.circle.Given as goal

abbrev pub invariant-loop-visited : goal.invariant-loop-visited
invariant-loop-visited l = IsVisiting l.graph.count l.graph.edges.items l.progress.counts.items l.first l.visited.items l.path.items l.vertex

abbrev pub decreases-loop-visited : goal.decreases-loop-visited
decreases-loop-visited l = sum_by unmarked l.visited.items
