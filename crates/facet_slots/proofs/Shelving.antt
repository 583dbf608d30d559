-- What is kept of a list of slots.
use Rattle.std.proofs.Common.{◌≡◌, ◌++◌, ℕ, zero, suc, List, [], ◌∷◌, set, length, slice_get, IfSome, ◌+◌, ◌<◌, ◌≤◌, ◌-◌, drop, take, arith}
use Rattle.std.specs.Option.{option_map}
use Rattle.std.proofs.lemmas.Option.{slice_get-map}
use Rattle.std.proofs.lemmas.List.{drop-set-add, drop-set-lt, length-drop, length-map, length-set, length-take-le, map-set, take-set-le}
use Rattle.std.proofs.Math.Seq.{take-set-lt}
use Rattle.values.specs.InRange.{AreInRange, IsInRange}
use Rattle.facet_slots.specs.declared.place.Place.{Place}
use Rattle.facet_slots.specs.declared.slot.Slot.{Slot}
use Rattle.facet_slots.specs.Shelves.{slot_flags, slot_inputs, slot_values, IsShelf}

pub value_at : (slots : List Slot) (i : ℕ) → slice_get (slot_values slots) i ≡ option_map (λ (s : Slot). s.value) (slice_get slots i)
value_at slots i = slice_get-map (λ (s : Slot). s.value) slots i

pub inputs_at : (slots : List Slot) (i : ℕ) → slice_get (slot_inputs slots) i ≡ option_map (λ (s : Slot). s.inputs) (slice_get slots i)
inputs_at slots i = slice_get-map (λ (s : Slot). s.inputs) slots i

pub flag_at : (slots : List Slot) (i : ℕ) → slice_get (slot_flags slots) i ≡ option_map (λ (s : Slot). s.flag) (slice_get slots i)
flag_at slots i = slice_get-map (λ (s : Slot). s.flag) slots i

pub value_set : (slots : List Slot) (i : ℕ) (s : Slot) → slot_values (set slots i s) ≡ set (slot_values slots) i s.value
value_set slots i s = map-set (λ (t : Slot). t.value) slots i s

pub inputs_set : (slots : List Slot) (i : ℕ) (s : Slot) → slot_inputs (set slots i s) ≡ set (slot_inputs slots) i s.inputs
inputs_set slots i s = map-set (λ (t : Slot). t.inputs) slots i s

pub flag_set : (slots : List Slot) (i : ℕ) (s : Slot) → slot_flags (set slots i s) ≡ set (slot_flags slots) i s.flag
flag_set slots i s = map-set (λ (t : Slot). t.flag) slots i s

pub value_count : (slots : List Slot) → length (slot_values slots) ≡ length slots
value_count slots = length-map slots (λ (s : Slot). s.value)

pub inputs_count : (slots : List Slot) → length (slot_inputs slots) ≡ length slots
inputs_count slots = length-map slots (λ (s : Slot). s.inputs)

pub flag_count : (slots : List Slot) → length (slot_flags slots) ≡ length slots
flag_count slots = length-map slots (λ (s : Slot). s.flag)

pub set_in_range : (slots : List Slot) (i : ℕ) (s : Slot) → AreInRange (slot_values slots) → IfSome s.value IsInRange → AreInRange (slot_values (set slots i s))
set_in_range [] i s h k = tt
set_in_range (x ∷ xs) zero s h k = (k, h.1)
set_in_range (x ∷ xs) (suc i) s h k = (h.0, set_in_range xs i s h.1 k)

pub push_in_range : (slots : List Slot) (s : Slot) → AreInRange (slot_values slots) → IfSome s.value IsInRange → AreInRange (slot_values (slots ++ s ∷ []))
push_in_range [] s h k = (k, tt)
push_in_range (x ∷ xs) s h k = (h.0, push_in_range xs s h.1 k)

pub first_set : (n : ℕ) (slots : List Slot) (i : ℕ) (s : Slot) → i < n → take n (set slots i s) ≡ set (take n slots) i s
first_set n slots i s h = take-set-lt n slots i s h

pub first_kept : (n : ℕ) (slots : List Slot) (i : ℕ) (s : Slot) → i < n → drop n (set slots i s) ≡ drop n slots
first_kept n slots i s h = drop-set-lt n slots i s h

pub other_set : (n : ℕ) (slots : List Slot) (i : ℕ) (s : Slot) → drop n (set slots (n + i) s) ≡ set (drop n slots) i s
other_set n slots i s = drop-set-add n slots i s

pub other_kept : (n : ℕ) (slots : List Slot) (i : ℕ) (s : Slot) → take n (set slots (n + i) s) ≡ take n slots
other_kept n slots i s = take-set-le n slots (n + i) s (omega arith)

pub first_count : (n : ℕ) (slots : List Slot) → n ≤ length slots → length (take n slots) ≡ n
first_count n slots h = length-take-le n slots h

pub other_count : (n : ℕ) (slots : List Slot) → length (drop n slots) ≡ length slots - n
other_count n slots = length-drop n slots

pub first_in_range : (n : ℕ) (slots : List Slot) → AreInRange (slot_values slots) → AreInRange (slot_values (take n slots))
first_in_range zero slots h = tt
first_in_range (suc n) [] h = tt
first_in_range (suc n) (x ∷ xs) h = (h.0, first_in_range n xs h.1)

pub part_in_range : (n : ℕ) (slots : List Slot) → AreInRange (slot_values slots) → AreInRange (slot_values (drop n slots))
part_in_range zero slots h = h
part_in_range (suc n) [] h = tt
part_in_range (suc n) (x ∷ xs) h = part_in_range n xs h.1

pub first_put : (places : List Place) (n : ℕ) (slots : List Slot) (i : ℕ) (s : Slot) → IsShelf places n slots → i < n → IfSome s.value IsInRange → IsShelf places n (set slots i s)
first_put places n slots i s shelf h k = record {
  placed = shelf.placed;
  fits = omega (arith, length-set slots i s, shelf.fits);
  facets_in_range = rw (first_set n slots i s h) (set_in_range (take n slots) i s shelf.facets_in_range k);
  fields_in_range = rw (first_kept n slots i s h) shelf.fields_in_range;
}

pub other_put : (places : List Place) (n : ℕ) (slots : List Slot) (i : ℕ) (s : Slot) → IsShelf places n slots → IfSome s.value IsInRange → IsShelf places n (set slots (n + i) s)
other_put places n slots i s shelf k = record {
  placed = shelf.placed;
  fits = omega (arith, length-set slots (n + i) s, shelf.fits);
  facets_in_range = rw (other_kept n slots i s) shelf.facets_in_range;
  fields_in_range = rw (other_set n slots i s) (set_in_range (drop n slots) i s shelf.fields_in_range k);
}
