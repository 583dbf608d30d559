-- The numbers of a sort of rules.
use Rattle.std.specs.Prelude.{ℕ, ◌≤◌}

-- a number of a sort that has so many: they run from 1
pub record IsNumber (count number : ℕ) : Type 0 where
  pub low : 1 ≤ number
  pub high : number ≤ count
