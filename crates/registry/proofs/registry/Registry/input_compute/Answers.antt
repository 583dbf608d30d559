use Rattle.std.proofs.Common.{List, subst}
use Rattle.configuration.specs.declared.dependency.Dependency.{Dependency}
use Rattle.configuration.specs.declared.node_def.NodeDef.TheVariants as defs
use Rattle.ext_tree.specs.declared.node.Node.TheVariants as nodes
use Rattle.std.proofs.lemmas.Result.{err_from_is_err_and}
use Rattle.registry.specs.Refusals.{IsRefused, Passes, compute_refusals}
use Rattle.registry.proofs.Declaring.{declare-compute}
use Rattle.registry.proofs.Growing.{grows-node}
use Rattle.registry.proofs.Registering.{still-registered}
use Rattle.registry.proofs.registry.Registry.input_compute.Goals as goal

pub returns-in_err-compute_refusal-clause-refused : goal.returns-in_err-compute_refusal-clause-refused
returns-in_err-compute_refusal-clause-refused g c =
    let p = err_from_is_err_and c.from_residual.result c.from_residual.ensures.1 in
    let error = c.in_err-compute_refusal.field-0.0 in
    let e : IsRefused (compute_refusals g.M.Meanings.rules c.self.inside.parts c.args.facet c.args.rule c.args.reads) error =
    subst (λ (rs : List Dependency). IsRefused (compute_refusals g.M.Meanings.rules c.self.inside.parts c.args.facet c.args.rule rs) error) c.as_slice.ensures c.in_err-compute_refusal.ensures.refused in
    rw (p.1, p.2, ← c.self.view_is) e

pub invariant_of-self-2 : goal.invariant_of-self-2
invariant_of-self-2 g c =
    let e : Passes (compute_refusals g.M.Meanings.rules c.self.inside.parts c.args.facet c.args.rule c.args.reads) =
    subst (λ (rs : List Dependency). Passes (compute_refusals g.M.Meanings.rules c.self.inside.parts c.args.facet c.args.rule rs)) c.as_slice.ensures c.in_ok-compute_refusal.ensures.passes in
    rw c.in_ok-id.ensures.added (still-registered g.M.Meanings.rules c.self.inside.parts _ c.self.invariant (declare-compute g.M.Meanings.rules c.self.inside.parts c.self.invariant.lawful c.args.facet c.args.rule c.args.reads e) (grows-node c.self.inside.parts (nodes.Input c.args.facet) (defs.Compute c.args.rule c.args.reads)))

pub returns-clause-grows : goal.returns-clause-grows
returns-clause-grows g c = rw (c.in_ok-id.ensures.added, ← c.self.view_is) (grows-node c.self.inside.parts (nodes.Input c.args.facet) (defs.Compute c.args.rule c.args.reads))
