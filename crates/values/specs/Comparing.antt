-- The shipped rules that say whether two values are the same (manual: FacetConfig.compare, StateFieldSpec.compare).
use Rattle.std.specs.Prelude.{◌≡◌, ℕ, Bool, true, false, ◌&&◌, List, [], ◌∷◌}
use Rattle.cm_plain.specs.declared.plain.Plain.TheVariants as plain
use Rattle.values.specs.declared.val.Val.{Val}
use Rattle.values.specs.declared.val.Val.TheVariants.{Plain, Ranges, Layers, History}
use Rattle.values.specs.Reading.{row}
use Rattle.values.specs.Equality.{equal}

-- a plain value that is no list
abbrev pub is_scalar : Val → Bool
is_scalar (Plain (plain.List items)) = false
is_scalar (Plain p) = true
is_scalar v = false

abbrev pub never : Val → Val → Bool
never old new = false

abbrev pub equal_scalars : Val → Val → Bool
equal_scalars old new = is_scalar old && equal old new

-- Compare: by the rule's number.
abbrev pub compare : ℕ → (old new : Val) → Bool
compare n =
    row n never
    ((1, equal)
    ∷ (2, never)
    ∷ (3, equal_scalars)
    ∷ [])
