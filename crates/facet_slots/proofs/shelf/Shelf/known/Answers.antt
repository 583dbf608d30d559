use Rattle.std.proofs.Common.{drop, map, subst, take}
use Rattle.facet_slots.specs.Scenes.{IsEachInRange}
use Rattle.facet_slots.specs.Keeping.{held}
use Rattle.facet_slots.specs.Shelves.{place_value, slot_values, Shelved}
use Rattle.facet_slots.proofs.Ranged.{held-in-range}
use Rattle.facet_slots.proofs.Standings.{facets-in-range}
use Rattle.facet_slots.proofs.shelf.Shelf.known.Goals as goal

pub returns : goal.returns
returns c =
    let places = c.self.inside.places.value.items in
    let facets = take c.self.inside.slot_count c.self.inside.slots.items in
    let fields = drop c.self.inside.slot_count c.self.inside.slots.items in
    subst (λ (v : Shelved). IsEachInRange (held v.facets v.fields)) c.self.view_is
    (held-in-range (map (place_value facets) places) (slot_values fields) (facets-in-range places c.self.inside.slot_count facets c.self.invariant.placed c.self.invariant.facets_in_range) c.self.invariant.fields_in_range)
