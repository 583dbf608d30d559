use Rattle.std.proofs.Common.{◌≡◌, ◌<◌, ◌∙◌, ℕ, List, Bool, false, length, get_or, refl, subst, arith}
use Rattle.std.proofs.lemmas.Option.{slice_get_read, get_or_from_slice_get}
use Rattle.dep_graph.specs.declared.edge.Edge.{Edge}
use Rattle.dep_graph.specs.Order.{IsEdge, edge, IsFirstStuck}
use Rattle.dep_graph.specs.Visiting.{IsPartFrom}
use Rattle.dep_graph.proofs.Members.{all-recursion}
use Rattle.dep_graph.proofs.Stuck.{first-stuck}
use Rattle.dep_graph.proofs.Visits.{visits, there, closes}
use Rattle.dep_graph.proofs.circle.circle.Goals as goal

mark-at : (marks : List Bool) (v : ℕ) (b : Bool) → v < length marks → b ≡ get_or marks v b → get_or marks v false ≡ b
mark-at marks v b lt e = get_or_from_slice_get marks v b false (slice_get_read marks (length marks) v b refl lt e)

pub loop-visited-preserved : goal.loop-visited-preserved
loop-visited-preserved c =
    let i = c.loop-visited.invariant in
    let marks : List Bool = c.loop-visited.visited.items in
    let inside : c.loop-visited.vertex < length marks = omega (arith, i.within, i.as_many) in
    let new : get_or marks c.loop-visited.vertex false ≡ false = mark-at marks c.loop-visited.vertex c.index.result.now inside c.index.ensures ∙ c.loop-visited-test.true in
    rw c.in_ok-push.ensures.items
    (visits c.args.graph.now.count c.args.graph.now.edges.items c.args.progress.now.counts.items c.args.first marks c.loop-visited.path.items c.loop-visited.vertex i c.next_waiting-vertex.result new
    (record { within = c.next_waiting-vertex.ensures.within; waits = c.next_waiting-vertex.ensures.waits; next = c.next_waiting-vertex.ensures.next }))

pub part_from-requires : goal.part_from-requires
part_from-requires c =
    let i = c.loop-visited.invariant in
    let marks : List Bool = c.loop-visited.visited.items in
    let inside : c.loop-visited.vertex < length marks = omega (arith, i.within, i.as_many) in
    rw c.deref-3.ensures.value
    (there c.args.graph.now.count c.args.graph.now.edges.items c.args.progress.now.counts.items c.args.first marks c.loop-visited.path.items c.loop-visited.vertex i
    (mark-at marks c.loop-visited.vertex c.index.result.now inside c.index.ensures ∙ c.loop-visited-test.false))

pub returns : goal.returns
returns c =
    let i = c.loop-visited.invariant in
    let marks : List Bool = c.loop-visited.visited.items in
    let inside : c.loop-visited.vertex < length marks = omega (arith, i.within, i.as_many) in
    let count : ℕ = c.args.graph.now.count in
    let es : List Edge = c.args.graph.now.edges.items in
    let stuck : IsFirstStuck count es c.args.first = first-stuck count es (all-recursion (IsEdge count) (edge 0 0) es c.requires.graph.edges) c.args.progress.now.counts.items c.args.progress.now.order.items c.requires.progress c.args.first c.requires.first in
    let part : IsPartFrom c.loop-visited.path.items c.loop-visited.vertex c.in_ok-members.members.items = subst (λ (vs : List ℕ). IsPartFrom vs c.loop-visited.vertex c.in_ok-members.members.items) c.deref-3.ensures.value c.in_ok-members.ensures in
    closes count es c.args.progress.now.counts.items c.args.first marks c.loop-visited.path.items c.loop-visited.vertex i c.in_ok-members.members.items stuck part
    (there count es c.args.progress.now.counts.items c.args.first marks c.loop-visited.path.items c.loop-visited.vertex i
    (mark-at marks c.loop-visited.vertex c.index.result.now inside c.index.ensures ∙ c.loop-visited-test.false))
