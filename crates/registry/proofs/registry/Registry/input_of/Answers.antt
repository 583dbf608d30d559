use Rattle.configuration.specs.declared.node_def.NodeDef.TheVariants as defs
use Rattle.ext_tree.specs.declared.node.Node.TheVariants as nodes
use Rattle.registry.proofs.Declaring.{declare-input}
use Rattle.registry.proofs.Growing.{grows-node}
use Rattle.registry.proofs.Registering.{still-registered}
use Rattle.registry.proofs.registry.Registry.input_of.Goals as goal

pub invariant_of-self-2 : goal.invariant_of-self-2
invariant_of-self-2 g c = rw c.in_ok-id.ensures.added (still-registered g.M.Meanings.rules c.self.inside.parts _ c.self.invariant (declare-input g.M.Meanings.rules c.self.inside.parts c.self.invariant.lawful c.args.facet c.args.value c.in_ok-input_refusal.ensures.passes c.known.ensures) (grows-node c.self.inside.parts (nodes.Input c.args.facet) (defs.Of c.args.value)))

pub returns-clause-grows : goal.returns-clause-grows
returns-clause-grows g c = rw (c.in_ok-id.ensures.added, ← c.self.view_is) (grows-node c.self.inside.parts (nodes.Input c.args.facet) (defs.Of c.args.value))
