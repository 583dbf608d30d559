use Rattle.std.proofs.Common.{◌≡◌, Some, drop, slice_get, take}
use Rattle.facet_slots.specs.declared.place.Place.TheVariants as place
use Rattle.facet_slots.proofs.Standings.{lasting_is}
use Rattle.facet_slots.proofs.shelf.begun.Goals as goal

pub returns-clause-lasting : goal.returns-clause-lasting
returns-clause-lasting c =
    lasting_is (λ f v. slice_get c.args.places.value.items f ≡ Some (place.Lasting v)) c.args.places.value.items (take c.args.slot_count c.in_ok-slots.slots.items) (drop c.args.slot_count c.in_ok-slots.slots.items) (λ f v at. at)
