use Rattle.std.proofs.Common.{◌≡◌, ◌≤◌, ℕ, Some, length, slice_get}
use Rattle.values.specs.declared.val.Val.{Val}
use Rattle.facet_slots.specs.declared.place.Place.TheVariants as place
use Rattle.facet_slots.specs.Shelves.{ArePlaced, IsStillIn}
use Rattle.facet_slots.specs.Lent.{setup_of}
use Rattle.facet_slots.proofs.walk.places.Given as goal

abbrev pub invariant-loop-facet : goal.invariant-loop-facet
invariant-loop-facet l = record {
  count : length l.list.items ≡ l.facet;
  few : l.slot_count ≤ l.facet;
  placed : ArePlaced l.slot_count l.list.items;
  lasting : (f : ℕ) (v : Val) → slice_get l.list.items f ≡ Some (place.Lasting v) → IsStillIn (setup_of l.setup) l.old.shelf f v;
}
