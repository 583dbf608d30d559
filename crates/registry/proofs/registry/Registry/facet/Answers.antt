use Rattle.std.proofs.Common.{ℕ, List, sym, subst}
use Rattle.registry.specs.Refusals.{Passes, facet_refusals}
use Rattle.registry.proofs.Declaring.{declare-facet}
use Rattle.registry.proofs.Growing.{grows-facet}
use Rattle.registry.proofs.Registering.{still-registered}
use Rattle.registry.proofs.registry.Registry.facet.Goals as goal

pub invariant_of-self-2 : goal.invariant_of-self-2
invariant_of-self-2 g c =
    let d = c.self.inside.parts in
    let e : Passes (facet_refusals g.M.Meanings.rules d c.args.def c.args.enables) =
    subst (λ (ids : List ℕ). Passes (facet_refusals g.M.Meanings.rules d c.args.def ids)) c.ids.ensures (sym c.in_default.ensures) in
    rw c.in_ok-add_facet.ensures.added (still-registered g.M.Meanings.rules d _ c.self.invariant (declare-facet g.M.Meanings.rules d c.self.invariant.lawful c.args.def c.args.enables e) (grows-facet d c.args.def c.args.enables))

pub returns-clause-grows : goal.returns-clause-grows
returns-clause-grows g c = rw (c.in_ok-add_facet.ensures.added, ← c.self.view_is) (grows-facet c.self.inside.parts c.args.def c.args.enables)
