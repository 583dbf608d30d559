use Rattle.std.proofs.Common.{◌∙◌, sym, map, drop}
use Rattle.facet_slots.specs.Setups.{input_node}
use Rattle.facet_slots.proofs.Nodes.{kept-none}
use Rattle.facet_slots.proofs.before.Before.outputs.Goals as goal

pub returns-in-empty : goal.returns-in-empty
returns-in-empty c = sym c.loop-was.invariant ∙ kept-none c.args.node (map (input_node c.args.self.now.node_defs.now) (drop c.loop-was.was-index c.args.self.now.nodes.now)) c.loop-was.kept.now c.in-empty.len_below
