use Rattle.std.proofs.Common.{◌≡◌, [], ℕ, List, arith, subst}
use Rattle.dep_graph.specs.declared.edge.Edge.{Edge}
use Rattle.dep_graph.specs.Counting.{AreCounts, IsProgress, ready_below}
use Rattle.dep_graph.proofs.Start.{starts}
use Rattle.dep_graph.proofs.progress.run.Goals as goal

start-at : (count : ℕ) (es read : List Edge) (counts counts' order : List ℕ) → read ≡ es → AreCounts count [] read counts → counts' ≡ counts → order ≡ ready_below counts' count → IsProgress count es [] [] counts order
start-at count es read counts counts' order e c same is = rw (is, same) (starts counts count es (subst (λ (xs : List Edge). AreCounts count [] xs counts) e c))

pub loop-head-init : goal.loop-head-init
loop-head-init c = record {
  head = omega arith;
  progress = start-at c.args.graph.now.count c.args.graph.now.edges.items c.deref.result.now c.in_ok-counts.counts.items c.deref-2.result.now c.in_ok-order.order.items c.deref.ensures.value c.in_ok-counts.ensures c.deref-2.ensures.value c.in_ok-order.ensures;
}
