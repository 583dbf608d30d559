use Rattle.std.proofs.Common.{◌∙◌, sym}
use Rattle.dep_graph.proofs.Next.{Found, is-found, found}
use Rattle.dep_graph.proofs.circle.next_waiting.Goals as goal
use Rattle.dep_graph.proofs.circle.next_waiting.Goals.{In-Some}

next : (c : In-Some) → Found c.args.graph.now.count c.args.graph.now.edges.items c.args.progress.now.counts.items c.args.vertex c.in-Some.next
next c =
    found c.args.graph.now.count c.args.graph.now.edges.items c.args.progress.now.counts.items c.args.progress.now.order.items c.requires.graph.edges c.requires.progress c.args.vertex c.requires.within c.requires.waits c.in-Some.next
    (c.requires.nexts.least c.args.vertex c.requires.within ∙ sym c.in-Some.ensures)

pub unreachable-requires : goal.unreachable-requires
unreachable-requires c =
    is-found c.args.graph.now.count c.args.graph.now.edges.items c.args.progress.now.counts.items c.args.progress.now.order.items c.requires.graph.edges c.requires.progress c.args.vertex c.requires.within c.requires.waits
    (c.requires.nexts.least c.args.vertex c.requires.within ∙ sym c.in-None.ensures)

pub returns-clause-within : goal.returns-clause-within
returns-clause-within c = (next (goal.at.returns-clause-within c).In-Some).within

pub returns-clause-waits : goal.returns-clause-waits
returns-clause-waits c = (next (goal.at.returns-clause-waits c).In-Some).waits

pub returns-clause-next : goal.returns-clause-next
returns-clause-next c = (next (goal.at.returns-clause-next c).In-Some).next
