use Rattle.std.proofs.Common.{IfSome, slice_get, subst}
use Rattle.values.specs.Vals.{IsOf}
use Rattle.facet_slots.specs.Slotted.{Slotted, plain}
use Rattle.state.proofs.Shapes.{field-found}
use Rattle.state.proofs.state.StateLookup.field.Goals as goal

pub returns-clause-fits : goal.returns-clause-fits
returns-clause-fits g c =
    subst (λ (v : Slotted). IfSome c.field.result (λ w. IfSome (slice_get v.setup.defs.fields c.args.id) (λ def. IsOf (g.M.Meanings.rules.update_shape def.update) w.now))) c.self.view_is
    (field-found g.M.Meanings.rules c.self.inside.slots.setup (plain c.self.inside.slots).values c.known.ensures.fields c.args.id (c.known.ensures.absent c.args.id) c.field.result c.field.ensures)
