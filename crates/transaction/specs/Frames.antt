-- What specs are merged over: the limits under which the maps of effects are asked.
use Rattle.std.specs.Prelude.{ℕ, ◌≤◌, List}
use Rattle.line_tree.specs.Text.{max_len}
use Rattle.change_desc.specs.declared.section.Section.{Section}
use Rattle.change_desc.specs.Sections.{counted, new_size, old_size}
use Rattle.transaction.specs.declared.effect_kinds.EffectKinds.{EffectKinds}
use Rattle.transaction.specs.Effects.{HasMaps}

-- the maps can be asked, each kind's map is one of those that there are, and no document is longer than any may be
pub record IsFrame (ready : Type 0) (count : ℕ) (kinds : EffectKinds) (max : ℕ) : Type 0 where
  pub can_map : ready
  pub known : HasMaps count kinds.maps
  pub limit : max ≤ max_len

-- changes between two documents that are not too long
pub record AreWithin (max : ℕ) (over : List (Section ℕ)) : Type 0 where
  pub short : old_size over ≤ max
  pub new_short : new_size counted over ≤ max
