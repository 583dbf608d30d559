-- Ranges that stand for what they cover (Reference Manual: RangeValue.point).
use Rattle.std.specs.Prelude.{Bool, List, filter}
use Rattle.range_set.specs.Rules.{RangeRules}
use Rattle.range_set.specs.declared.ranged.Ranged.{Ranged}

abbrev pub stands : {T : Type 0} → RangeRules T → Ranged T → Bool
stands rules r = rules.is_point r.value

-- Points: those of some ranges that stand for what they cover.
abbrev pub points_of : {T : Type 0} → RangeRules T → List (Ranged T) → List (Ranged T)
points_of rules rs = filter (stands rules) rs
