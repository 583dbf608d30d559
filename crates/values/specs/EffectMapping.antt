-- The shipped maps of effects (manual: StateEffectType.map).
use Rattle.std.specs.Prelude.{ℕ, List, Option, Some, None, option_map}
use Rattle.change_desc.specs.declared.section.Section.{Section}
use Rattle.cm_plain.specs.KeptMaps.{kept_map_of}
use Rattle.kept_effects.specs.MappedValues.{mapped_value}
use Rattle.values.specs.declared.val.Val.{Val}
use Rattle.values.specs.declared.val.Val.TheVariants.{Plain, Ranges, Layers, History}

-- Map an effect: 1 maps a position, 2 a range; a value that is none stays.
abbrev pub map_effect : ℕ → Val → List (Section ℕ) → Option Val
map_effect n (Plain p) changes = option_map Plain (mapped_value (kept_map_of n) p changes)
map_effect n v changes = Some v
