-- Where changes move the values of kept effects (manual: StateEffect.map, MapMode).
use Rattle.std.specs.Prelude.{ℕ, Bool, true, false, cond, ◌&&◌, leb, ltb, ℤ, pos, negsuc, List, [], ◌∷◌, filter_map, Option, Some, None, option_map}
use Rattle.std.specs.Option.{option_and_then, option_map_or}
use Rattle.change_desc.specs.declared.section.Section.{Section}
use Rattle.change_desc.specs.declared.map_mode.MapMode.TheVariants.{TrackDel}
use Rattle.change_desc.specs.Sections.{counted, old_size}
use Rattle.change_desc.specs.Places.{place_after}
use Rattle.change_desc.specs.Positions.{map_pos}
use Rattle.cm_plain.specs.Datum.{number}
use Rattle.cm_plain.specs.declared.plain.Plain.{Plain}
use Rattle.cm_plain.specs.declared.plain.Plain.TheVariants as plain
use Rattle.cm_plain.specs.declared.kept_effect.KeptEffect.{KeptEffect}
use Rattle.cm_plain.specs.declared.kept_effect.KeptMap.{KeptMap}
use Rattle.cm_plain.specs.declared.kept_effect.KeptMap.TheVariants.{Position, Range}

-- a whole number as a position of a document of this length
abbrev pub position_in : ℕ → ℤ → Option ℕ
position_in len (pos n) = cond (leb n len) (Some n) None
position_in len (negsuc n) = None

-- where changes move a position, after what is inserted there, unless it lies outside or strictly inside what is replaced
abbrev pub mapped_place : List (Section ℕ) → ℤ → Option ℕ
mapped_place changes z = option_and_then (λ p. map_pos counted changes p false TrackDel) (position_in (old_size changes) z)

-- Mapped position: a whole number; another value stays.
abbrev pub mapped_position : List (Section ℕ) → Plain → Option Plain
mapped_position changes (plain.Int z) = option_map (λ p. plain.Int (pos p)) (mapped_place changes z)
mapped_position changes value = Some value

-- the numbers of a list of two whole numbers
abbrev pub two_numbers : Plain → Option (ℤ × ℤ)
two_numbers (plain.List (number from ∷ number to ∷ [])) = Some (from, to)
two_numbers value = None

-- two whole numbers as the ends of a range of a document of this length
abbrev pub ends_in : ℕ → ℤ × ℤ → Option (ℕ × ℕ)
ends_in len (pos from, pos to) = cond (leb from to && leb to len) (Some (from, to)) None
ends_in len ends = None

-- the ends of the range of a document of this length that a value is, if it is one
abbrev pub ends_of : ℕ → Plain → Option (ℕ × ℕ)
ends_of len value = option_and_then (ends_in len) (two_numbers value)

abbrev pub range_value : (from to : ℕ) → Plain
range_value from to = plain.List (number (pos from) ∷ number (pos to) ∷ [])

-- a range between two places, unless these meet or cross
abbrev pub unless_crossed : (from to : ℕ) → Option Plain
unless_crossed from to = cond (ltb from to) (Some (range_value from to)) None

-- where changes move a range: its start after what is inserted there, and its end before it
abbrev pub mapped_ends : List (Section ℕ) → (from to : ℕ) → Option Plain
mapped_ends changes from to = unless_crossed (place_after changes from false) (place_after changes to true)

-- Mapped range: a list of two whole numbers that are the ends of a range of the old document; another value stays.
abbrev pub mapped_range : List (Section ℕ) → Plain → Option Plain
mapped_range changes value = option_map_or (λ ends. mapped_ends changes ends.0 ends.1) (ends_of (old_size changes) value) (Some value)

-- Mapped value: by the map that the effect's kind has; without one it stays.
abbrev pub mapped_value : Option KeptMap → Plain → List (Section ℕ) → Option Plain
mapped_value None value changes = Some value
mapped_value (Some Position) value changes = mapped_position changes value
mapped_value (Some Range) value changes = mapped_range changes value

-- Moved effects: each with its mapped value, without those that are dropped.
abbrev pub moved_effect : List (Section ℕ) → KeptEffect → Option KeptEffect
moved_effect changes e = option_map (λ value. record { id = e.id; map = e.map; value = value }) (mapped_value e.map e.value changes)

abbrev pub moved_effects : List (Section ℕ) → List KeptEffect → List KeptEffect
moved_effects changes es = filter_map (moved_effect changes) es
