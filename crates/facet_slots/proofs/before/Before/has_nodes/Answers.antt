use Rattle.std.proofs.Common.{◌∙◌}
use Rattle.facet_slots.proofs.Nodes.{same_nodes-is}
use Rattle.facet_slots.proofs.before.Before.has_nodes.Goals as goal

pub returns : goal.returns
returns c = λ node_defs. c.eq.ensures ∙ same_nodes-is c.args.self.now.node_defs.now node_defs c.args.self.now.nodes.now c.args.nodes.now
