use Rattle.facet_slots.proofs.Shelving.{other_put}
use Rattle.facet_slots.proofs.shelf.Shelf.put_field.Goals as goal

pub invariant_of-self : goal.invariant_of-self
invariant_of-self c = other_put c.self.inside.places.value.items c.self.inside.slot_count c.self.inside.slots.items c.args.field c.args.slot c.self.invariant c.known_value.ensures
