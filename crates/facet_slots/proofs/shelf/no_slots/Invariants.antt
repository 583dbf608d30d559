use Rattle.std.proofs.Common.{◌≡◌, length}
use Rattle.values.specs.InRange.{AreInRange}
use Rattle.facet_slots.specs.Shelves.{slot_values}
use Rattle.facet_slots.proofs.shelf.no_slots.Given as goal

abbrev pub invariant-loop-place : goal.invariant-loop-place
invariant-loop-place l = record { count : length l.slots.items ≡ l._place; in_range : AreInRange (slot_values l.slots.items) }
