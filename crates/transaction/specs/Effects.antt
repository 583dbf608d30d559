-- Effects, and where changes move them (manual: StateEffect, StateEffect.map).
use Rattle.std.specs.Prelude.{ℕ, List, [], ◌∷◌, filter_map, slice_get, Option, Some, None, option_map}
use Rattle.std.specs.Option.{option_flatten}
use Rattle.change_desc.specs.declared.section.Section.{Section}
use Rattle.transaction.specs.declared.effect.Effect.{Effect}
use Rattle.transaction.specs.declared.effect.Effect.TheVariants.{Kind}
use Rattle.transaction.specs.declared.effect_kinds.EffectKinds.{EffectKinds}
use Rattle.transaction.specs.Numbers.{IsNumber}

-- what a map does with an effect's value over some changes, by the map's number
abbrev pub ValueMap : Type 0 → Type 0
ValueMap V = ℕ → V → List (Section ℕ) → Option V

-- the number at a kind's place, if it has one
abbrev pub map_of : List (Option ℕ) → (id : ℕ) → Option ℕ
map_of numbers id = option_flatten (slice_get numbers id)

-- each map that a kind has is one of so many
abbrev pub HasMaps : (count : ℕ) → List (Option ℕ) → Type 0
HasMaps count [] = Unit {0}
HasMaps count (None ∷ numbers) = HasMaps count numbers
HasMaps count (Some number ∷ numbers) = IsNumber count number × HasMaps count numbers

module _ {V : Type 0} (kinds : EffectKinds) (map_value : ValueMap V) where
  abbrev pub mapped_by : Option ℕ → V → List (Section ℕ) → Option V
  mapped_by None value changes = Some value
  mapped_by (Some number) value changes = map_value number value changes

  -- Mapped effect: its kind's map may change its value or drop it; without a map it stays, as an effect on the configuration
  -- does (manual: StateEffect.map).
  abbrev pub moved_effect : List (Section ℕ) → Effect V → Option (Effect V)
  moved_effect changes (Kind id value) = option_map (Kind id) (mapped_by (map_of kinds.maps id) value changes)
  moved_effect changes effect = Some effect

  abbrev pub moved_effects : List (Section ℕ) → List (Effect V) → List (Effect V)
  moved_effects changes es = filter_map (moved_effect changes) es
