use Rattle.std.proofs.Common.{◌≡◌, ◌<◌, ◌∙◌, List, Some, ap, map, set, slice_get, subst, sym, take}
use Rattle.facet_slots.specs.declared.place.Place.{Place}
use Rattle.facet_slots.specs.declared.place.Place.TheVariants as place
use Rattle.facet_slots.specs.declared.slot.Slot.{Slot}
use Rattle.facet_slots.specs.Shelves.{place_flag, place_inputs, place_value, Shelved}
use Rattle.facet_slots.proofs.Shelving.{first_count, first_put, first_set}
use Rattle.facet_slots.proofs.Standings.{flag-put, inputs-put, value-put}
use Rattle.facet_slots.proofs.shelf.Shelf.put_facet.Goals as goal

pub invariant_of-self : goal.invariant_of-self
invariant_of-self c =
    let places : List Place = c.self.inside.places.value.items in
    let number = c.slot_number-number.result in
    let at : slice_get places c.args.facet ≡ Some (place.Slot number) = rw (c.as_slice.ensures.value, c.deref.ensures) at c.slot_number-number.ensures in
    first_put places c.self.inside.slot_count c.self.inside.slots.items number c.args.slot c.self.invariant (c.self.invariant.placed.inside c.args.facet number at) c.known_value.ensures

pub returns-clause-facets : goal.returns-clause-facets
returns-clause-facets c =
    let places : List Place = c.self.inside.places.value.items in
    let number = c.slot_number-number.result in
    let n = c.self.inside.slot_count in
    let slots = c.self.inside.slots.items in
    let at : slice_get places c.args.facet ≡ Some (place.Slot number) = rw (c.as_slice.ensures.value, c.deref.ensures) at c.slot_number-number.ensures in
    let inside : number < n = c.self.invariant.placed.inside c.args.facet number at in
    ap (λ (xs : List Slot). map (place_value xs) places) (first_set n slots number c.args.slot inside)
    ∙ value-put places n c.args.facet number c.self.invariant.placed at (take n slots) c.args.slot (first_count n slots c.self.invariant.fits)
    ∙ ap (λ (v : Shelved). set v.facets c.args.facet c.args.slot.value) c.self.view_is

pub returns-clause-inputs : goal.returns-clause-inputs
returns-clause-inputs c =
    let places : List Place = c.self.inside.places.value.items in
    let number = c.slot_number-number.result in
    let n = c.self.inside.slot_count in
    let slots = c.self.inside.slots.items in
    let at : slice_get places c.args.facet ≡ Some (place.Slot number) = rw (c.as_slice.ensures.value, c.deref.ensures) at c.slot_number-number.ensures in
    let inside : number < n = c.self.invariant.placed.inside c.args.facet number at in
    ap (λ (xs : List Slot). map (place_inputs xs) places) (first_set n slots number c.args.slot inside)
    ∙ inputs-put places n c.args.facet number c.self.invariant.placed at (take n slots) c.args.slot (first_count n slots c.self.invariant.fits)
    ∙ ap (λ (v : Shelved). set v.inputs c.args.facet c.args.slot.inputs) c.self.view_is

pub returns-clause-facet_flags : goal.returns-clause-facet_flags
returns-clause-facet_flags c =
    let places : List Place = c.self.inside.places.value.items in
    let number = c.slot_number-number.result in
    let n = c.self.inside.slot_count in
    let slots = c.self.inside.slots.items in
    let at : slice_get places c.args.facet ≡ Some (place.Slot number) = rw (c.as_slice.ensures.value, c.deref.ensures) at c.slot_number-number.ensures in
    let inside : number < n = c.self.invariant.placed.inside c.args.facet number at in
    ap (λ (xs : List Slot). map (place_flag xs) places) (first_set n slots number c.args.slot inside)
    ∙ flag-put places n c.args.facet number c.self.invariant.placed at (take n slots) c.args.slot (first_count n slots c.self.invariant.fits)
    ∙ ap (λ (v : Shelved). set v.facet_flags c.args.facet c.args.slot.flag) c.self.view_is
