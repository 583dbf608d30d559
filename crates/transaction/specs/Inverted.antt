-- What undoes the effects of a draft (manual: invertedEffects).
use Rattle.std.specs.Prelude.{ℕ, List, reverse, filter_map, Option, Some, None, option_map}
use Rattle.std.specs.Option.{option_and_then}
use Rattle.change_desc.specs.declared.section.Section.{Section}
use Rattle.change_desc.specs.Sections.{spelled, lengths, inverted}
use Rattle.cm_plain.specs.KeptMaps.{kept_map_of}
use Rattle.cm_plain.specs.declared.plain.Plain.{Plain}
use Rattle.cm_plain.specs.declared.kept_effect.KeptEffect.{KeptEffect}
use Rattle.kept_effects.specs.MappedValues.{mapped_value}
use Rattle.transaction.specs.declared.draft.Draft.{Draft}
use Rattle.transaction.specs.declared.effect.Effect.{Effect}
use Rattle.transaction.specs.declared.effect.Effect.TheVariants.{Kind}
use Rattle.transaction.specs.Effects.{map_of}

-- an effect of a kind whose map has this number, its value mapped, unless the map drops it
abbrev pub kept_effect : (id : ℕ) → (map : Option ℕ) → Plain → List (Section ℕ) → Option KeptEffect
kept_effect id number value changes =
    let map = option_and_then kept_map_of number in
    option_map (λ value. record { id = id; map = map; value = value }) (mapped_value map value changes)

-- which values are plain, the map numbers of the kinds, and the pairs of the kinds
module _ {V : Type 0} (plain : V → Option Plain) (kinds pairs : List (Option ℕ)) where
  -- an effect of the paired kind, over the way back
  abbrev pub paired : List (Section ℕ) → Option ℕ → Option Plain → Option KeptEffect
  paired back (Some pair) (Some value) = kept_effect pair (map_of kinds pair) value back
  paired back _ _ = None

  -- Inverted effect: one of the kind's pair, where it has one and the value is plain.
  abbrev pub inverted_effect : List (Section ℕ) → Effect V → Option KeptEffect
  inverted_effect back (Kind id value) = paired back (map_of pairs id) (plain value)
  inverted_effect back effect = None

  abbrev pub inverted_over : List (Section ℕ) → List (Effect V) → List KeptEffect
  inverted_over back effects = filter_map (inverted_effect back) (reverse effects)

  -- Inverted effects: those of a draft's effects in reverse order, over the way back of its changes.
  abbrev pub inverted_effects : Draft V → List KeptEffect
  inverted_effects d = inverted_over (inverted (lengths spelled d.changes)) d.effects
