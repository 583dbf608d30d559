-- The maps that a kept effect may have, by their numbers (manual: invertedEffects, StateEffect.map).
use Rattle.std.specs.Prelude.{ℕ, cond, eqb, Option, Some, None}
use Rattle.cm_plain.specs.declared.kept_effect.KeptMap.{KeptMap}
use Rattle.cm_plain.specs.declared.kept_effect.KeptMap.TheVariants.{Position, Range}

-- Kept map: the map of a number, where there is one.
abbrev pub kept_map_of : ℕ → Option KeptMap
kept_map_of number = cond (eqb number 1) (Some Position) (cond (eqb number 2) (Some Range) None)

abbrev pub number_of : KeptMap → ℕ
number_of Position = 1
number_of Range = 2
