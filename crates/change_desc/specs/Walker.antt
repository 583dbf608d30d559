-- A walk along a description that maps ascending places of the old text.
use Rattle.std.specs.Prelude.{◌≡◌, ℕ, ◌+◌, ◌-◌, ◌<◌, ◌≤◌, ◌^◌, Bool, List, length, drop}
use Rattle.change_desc.specs.declared.section.Section.{Section}
use Rattle.change_desc.specs.declared.map_mode.MapMode.{MapMode}
use Rattle.change_desc.specs.declared.passed.Passed.{Passed}
use Rattle.change_desc.specs.Sections.{counted, old_size, new_size}
use Rattle.change_desc.specs.Positions.{moved, cuts, is_lost}
use Rattle.change_desc.specs.Steps.{plus}

-- what contracts see of a walk: the description, and the last place that was asked for
pub record Walk : Type 0 where
  pub desc : List (Section ℕ)
  pub reached : ℕ

-- Sections that are passed: from the reached place on, places go where the sections that are left say.
pub record IsPassed (s : List (Section ℕ)) (passed : Passed) (reached : ℕ) : Type 0 where
  pub within : passed.count ≤ length s
  pub old : passed.old + old_size (drop passed.count s) ≡ old_size s
  pub new : passed.new + new_size counted (drop passed.count s) ≡ new_size counted s
  pub before : passed.old ≤ reached
  pub goes : (negative : Bool) (p : ℕ) → reached ≤ p →
      moved negative p (cuts counted s) ≡ plus passed.new (moved negative (p - passed.old) (cuts counted (drop passed.count s)))
  pub loses : (mode : MapMode) (p : ℕ) → reached ≤ p → is_lost counted mode p s ≡ is_lost counted mode (p - passed.old) (drop passed.count s)

-- the sections of a description, of which some are passed
pub record IsWalk (s : List (Section ℕ)) (passed : Passed) (reached : ℕ) : Type 0 where
  pub old_fits : old_size s < 2 ^ 32
  pub new_fits : new_size counted s < 2 ^ 32
  pub is_passed : IsPassed s passed reached
