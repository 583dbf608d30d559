-- What a shelf keeps, as plain data.
use Rattle.std.specs.Prelude.{◌≡◌, ◌<◌, ◌≤◌, ℕ, List, [], Bool, true, false, Option, Some, drop, get_or, length, map, slice_get, take}
use Rattle.std.specs.Option.{option_flatten, unwrap_or}
use Rattle.configuration.specs.declared.vertex.Vertex.{Vertex}
use Rattle.configuration.specs.declared.vertex.Vertex.TheVariants.{Facet, Field}
use Rattle.values.specs.declared.val.Val.{Val}
use Rattle.values.specs.InRange.{AreInRange, IsInRange}
use Rattle.facet_slots.specs.Setups.{Setup}
use Rattle.facet_slots.specs.declared.place.Place.{Place}
use Rattle.facet_slots.specs.declared.place.Place.TheVariants as place
use Rattle.facet_slots.specs.declared.slot.Slot.{Slot}

-- Shelved: of each facet and field its value, of each facet what its inputs give, the flags of both, and which facets last, by id.
pub record Shelved : Type 0 where
  pub facets : List (Option Val)
  pub fields : List (Option Val)
  pub inputs : List (List (List Val))
  pub facet_flags : List Bool
  pub field_flags : List Bool
  pub lasting : List Bool

-- the value of each slot
abbrev pub slot_values : List Slot → List (Option Val)
slot_values slots = map (λ (s : Slot). s.value) slots

-- what the inputs of each slot give
abbrev pub slot_inputs : List Slot → List (List (List Val))
slot_inputs slots = map (λ (s : Slot). s.inputs) slots

-- the flag of each slot
abbrev pub slot_flags : List Slot → List Bool
slot_flags slots = map (λ (s : Slot). s.flag) slots

-- the value of the facet at a place, over the slots of facets
abbrev pub place_value : List Slot → Place → Option Val
place_value slots (place.Lasting v) = Some v
place_value slots (place.Slot k) = option_flatten (slice_get (slot_values slots) k)

-- what its inputs give
abbrev pub place_inputs : List Slot → Place → List (List Val)
place_inputs slots (place.Lasting v) = []
place_inputs slots (place.Slot k) = unwrap_or (slice_get (slot_inputs slots) k) []

-- its flag
abbrev pub place_flag : List Slot → Place → Bool
place_flag slots (place.Lasting v) = false
place_flag slots (place.Slot k) = unwrap_or (slice_get (slot_flags slots) k) false

-- whether it lasts
abbrev pub place_lasts : Place → Bool
place_lasts (place.Lasting v) = true
place_lasts (place.Slot k) = false

-- what the places of facets, over their slots, and the slots of fields keep
abbrev pub shelved : List Place → List Slot → List Slot → Shelved
shelved places facets fields =
    record {
      facets = map (place_value facets) places;
      fields = slot_values fields;
      inputs = map (place_inputs facets) places;
      facet_flags = map (place_flag facets) places;
      field_flags = slot_flags fields;
      lasting = map place_lasts places;
    }

-- Placed: each facet that doesn't last has a slot of its own, of so many, and the numbers of each lasting value lie in the ranges
-- of their types.
pub record ArePlaced (count : ℕ) (places : List Place) : Type 0 where
  pub inside : (f k : ℕ) → slice_get places f ≡ Some (place.Slot k) → k < count
  pub apart : (f g k : ℕ) → slice_get places f ≡ Some (place.Slot k) → slice_get places g ≡ Some (place.Slot k) → f ≡ g
  pub in_range : (f : ℕ) (v : Val) → slice_get places f ≡ Some (place.Lasting v) → IsInRange v

-- so many slots of facets stand before those of fields, each facet that doesn't last has one of them, and the numbers of all
-- values lie in the ranges of their types
pub record IsShelf (places : List Place) (count : ℕ) (slots : List Slot) : Type 0 where
  pub placed : ArePlaced count places
  pub fits : count ≤ length slots
  pub facets_in_range : AreInRange (slot_values (take count slots))
  pub fields_in_range : AreInRange (slot_values (drop count slots))

-- whether a facet lasts
abbrev pub lasts : List Bool → ℕ → Bool
lasts lasting f = unwrap_or (slice_get lasting f) false

-- whether a facet or field does; no field does
abbrev pub vertex_lasts : List Bool → Vertex → Bool
vertex_lasts lasting (Facet f) = lasts lasting f
vertex_lasts lasting (Field f) = false

-- Lasting: a facet has a value, of which P holds, its inputs give nothing, and it isn't flagged.
pub record IsLasting (P : ℕ → Val → Type 0) (s : Shelved) (f : ℕ) : Type 0 where
  pub value : Val
  pub was : P f value
  pub value_is : option_flatten (slice_get s.facets f) ≡ Some value
  pub inputs_are : unwrap_or (slice_get s.inputs f) [] ≡ []
  pub flag_is : unwrap_or (slice_get s.facet_flags f) false ≡ false

-- each facet that lasts is so
abbrev pub AreLasting : (ℕ → Val → Type 0) → Shelved → Type 0
AreLasting P s = (f : ℕ) → lasts s.lasting f ≡ true → IsLasting P s f

-- a facet has this value, and its inputs give nothing
abbrev pub IsStill : Shelved → ℕ → Val → Type 0
IsStill s f v = (option_flatten (slice_get s.facets f) ≡ Some v) × (unwrap_or (slice_get s.inputs f) [] ≡ [])

-- and it has no inputs in a configuration
abbrev pub IsStillIn : Setup → Shelved → ℕ → Val → Type 0
IsStillIn setup s f v = IsStill s f v × (get_or setup.config.inputs f [] ≡ [])

-- each facet that has a value and whose inputs give nothing has no inputs in a configuration
abbrev pub StayStill : Setup → Shelved → Type 0
StayStill setup s = (f : ℕ) (v : Val) → IsStill s f v → get_or setup.config.inputs f [] ≡ []
