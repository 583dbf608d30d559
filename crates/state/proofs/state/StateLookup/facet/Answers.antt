use Rattle.std.proofs.Common.{IfSome, slice_get, subst}
use Rattle.values.specs.Vals.{IsOf}
use Rattle.facet_slots.specs.Slotted.{Slotted, plain}
use Rattle.state.proofs.Shapes.{facet-shape}
use Rattle.state.proofs.state.StateLookup.facet.Goals as goal

pub returns-clause-fits : goal.returns-clause-fits
returns-clause-fits g c =
    subst (λ (v : Slotted). IfSome (slice_get v.setup.defs.facets c.args.id) (λ def. IsOf (g.M.Meanings.rules.combine_output def.combine) c.value.result.now)) c.self.view_is
    (facet-shape g.M.Meanings.rules c.self.inside.slots.setup (plain c.self.inside.slots).values c.known.ensures.facets c.args.id c.value.result.now c.value.ensures)
