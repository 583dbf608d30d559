-- Changes that begin one after the other: what private clauses say of them.
use Rattle.std.specs.Prelude.{◌≡◌, ℕ, ◌+◌, ◌-◌, ◌≤◌, ◌<◌, ◌^◌, [], ◌∷◌, ◌++◌}
use Rattle.change_desc.specs.declared.section.Section.TheVariants.{Keep}
use Rattle.change_desc.specs.Sections.{Sections, spelled, old_size, new_size, normal}
use Rattle.change_desc.specs.Of.{then_also}
use Rattle.change_set.specs.declared.ascent.Ascent.{Ascent}

-- the changes so far as one set: their sections, and a Keep of the rest of the document
abbrev pub total_of : Ascent → Sections
total_of a = normal spelled (a.sections.items ++ Keep (a.len - a.end) ∷ [])

pub record IsAscent (a : Ascent) : Type 0 where
  pub is_normal : normal spelled a.sections.items ≡ a.sections.items
  pub ends : old_size a.sections.items ≡ a.end
  pub within : a.end ≤ a.len
  pub new : new_size spelled a.sections.items + (a.len - a.end) ≡ a.new_len
  pub fits : a.len < 2 ^ 32
  pub new_fits : a.new_len < 2 ^ 32

-- one more set is put after the changes so far
pub record Grows (max : ℕ) (a b : Ascent) (set : Sections) : Type 0 where
  pub is_ascent : IsAscent b
  pub same_len : b.len ≡ a.len
  pub total : total_of b ≡ then_also spelled (total_of a) set
  pub short : b.new_len ≤ max
