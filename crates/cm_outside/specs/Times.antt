-- The coming answers of a clock.
use Rattle.std.specs.Prelude.{◌≡◌, ℕ, ◌+◌, ◌-◌, ℤ, pos, List, length, min, get_or, Option}
use Rattle.std.specs.Option.{IsSomeAnd}

-- Times: the coming answers in milliseconds, one after the other.
abbrev pub Times : Type 0
Times = ℕ → ℕ

-- the first of the times is answered, and the others are still to come
pub record Ticks (result : ℤ) (times : Times) (now : Option Times) : Type 0 where
  pub first : result ≡ pos (times 0)
  pub rest : IsSomeAnd now (λ later. (n : ℕ) → later n ≡ times (n + 1))

-- the answers of a list from a place on, and then its last again; 0 where the list is empty
abbrev pub times_from : List ℕ → ℕ → Times
times_from answers at n = get_or answers (min (at + n) (length answers - 1)) 0

-- What a clock in memory shows: its answers, and the place of the next one.
pub record MemClockView : Type 0 where
  pub answers : List ℕ
  pub at : ℕ
