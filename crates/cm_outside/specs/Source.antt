-- What a source gives.
use Rattle.std.specs.Prelude.{◌≡◌, ℕ, ◌<◌, ◌≤◌, List, [], length, take, drop, Option, Some, Result, Ok, Err}

-- how many bytes a read gave, or a write took
abbrev pub count_of : {E : Type 0} → Result ℕ E → ℕ
count_of (Ok n) = n
count_of (Err e) = 0

-- The bytes given are the first of those that were left, and the others are left now. No byte into a room that isn't
-- empty is the end of the input.
pub record Gives {E : Type 0} (input : List ℕ) (now : Option (List ℕ)) (room : List ℕ) (result : Result ℕ E) : Type 0 where
  pub fits : count_of result ≤ length input
  pub bytes : take (count_of result) room ≡ take (count_of result) input
  pub left : now ≡ Some (drop (count_of result) input)
  pub at_end : result ≡ Ok 0 → 0 < length room → input ≡ []

-- What a source tells: the bytes that it has left, where it tells them, how many it gave, and how often it failed.
pub record SourceTold : Type 0 where
  pub left : Option (List ℕ)
  pub given : ℕ
  pub faults : ℕ

-- what a source tells, by what each count of its kind is
abbrev pub source_told : {S : Type 0} → (S → Option (List ℕ)) → (S → ℕ) → (S → ℕ) → S → SourceTold
source_told left given faults s = record { left = left s; given = given s; faults = faults s }
