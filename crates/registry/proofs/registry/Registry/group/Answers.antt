use Rattle.std.proofs.Common.{ℕ, List, sym, subst}
use Rattle.configuration.specs.declared.node_def.NodeDef.TheVariants as defs
use Rattle.ext_tree.specs.declared.node.Node.TheVariants as nodes
use Rattle.registry.specs.Refusals.{Passes, group_refusals}
use Rattle.registry.proofs.Declaring.{declare-group}
use Rattle.registry.proofs.Growing.{grows-node}
use Rattle.registry.proofs.Registering.{still-registered}
use Rattle.registry.proofs.registry.Registry.group.Goals as goal

pub invariant_of-self-2 : goal.invariant_of-self-2
invariant_of-self-2 g c =
    let d = c.self.inside.parts in
    let e : Passes (group_refusals d c.args.of) =
    subst (λ (ids : List ℕ). Passes (group_refusals d ids)) c.ids.ensures (sym c.in_default.ensures) in
    rw c.in_ok-id.ensures.added (still-registered g.M.Meanings.rules d _ c.self.invariant (declare-group g.M.Meanings.rules d c.self.invariant.lawful c.args.of e) (grows-node d (nodes.Group c.args.of) defs.Branch))

pub returns-clause-grows : goal.returns-clause-grows
returns-clause-grows g c = rw (c.in_ok-id.ensures.added, ← c.self.view_is) (grows-node c.self.inside.parts (nodes.Group c.args.of) defs.Branch)
