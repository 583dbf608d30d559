-- Where a position goes whatever was deleted around it (manual: ChangeDesc.mapPos).
use Rattle.std.specs.Prelude.{ℕ, Bool, List, unwrap_or}
use Rattle.change_desc.specs.declared.section.Section.{Section}
use Rattle.change_desc.specs.declared.map_mode.MapMode.TheVariants.{Simple}
use Rattle.change_desc.specs.Sections.{counted}
use Rattle.change_desc.specs.Positions.{map_pos}

-- Place after: what the mode Simple answers for a position, which is never none.
abbrev pub place_after : List (Section ℕ) → ℕ → (negative : Bool) → ℕ
place_after changes p negative = unwrap_or (map_pos counted changes p negative Simple) 0
