-- What a value says of its range (Reference Manual: RangeValue).
use Rattle.std.specs.Prelude.{ℤ, Bool}
use Rattle.change_desc.specs.declared.map_mode.MapMode.{MapMode}

pub record RangeRules (T : Type 0) : Type 0 where
  pub start_side : T → ℤ
  pub end_side : T → ℤ
  pub mode : T → MapMode
  pub is_point : T → Bool
