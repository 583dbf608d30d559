-- The order of ranges, and the first fault of a list of them (Reference Manual: RangeSet.of).
use Rattle.std.specs.Prelude.{◌≡◌, ℕ, ◌+◌, Bool, false, ◌&&◌, ◌||◌, int_lt, nat_lt, ◌==◌, if◌then◌else◌, List, [], ◌∷◌, Option, Some, None}
use Rattle.range_set.specs.Rules.{RangeRules}
use Rattle.range_set.specs.declared.ranged.Ranged.{Ranged}
use Rattle.range_set.specs.declared.range_error.RangeError.{RangeError}
use Rattle.range_set.specs.declared.range_error.RangeError.TheVariants.{Reversed, NotSorted}

-- no range ends before it starts
abbrev pub AllForward : {T : Type 0} → List (Ranged T) → Type 0
AllForward [] = Unit {0}
AllForward (r ∷ rs) = (nat_lt r.to r.from ≡ false) × AllForward rs

module _ {T : Type 0} (rules : RangeRules T) where
  -- a range is before another by its start, then by its start side
  abbrev pub before : Ranged T → Ranged T → Bool
  before a b = nat_lt a.from b.from || (a.from == b.from && int_lt (rules.start_side a.value) (rules.start_side b.value))

  -- whether a range belongs before the one that stands before it
  abbrev pub precedes : Ranged T → Option (Ranged T) → Bool
  precedes r None = false
  precedes r (Some q) = before r q

  -- the first fault of ranges of which the first has this index and stands after `last`
  abbrev pub fault_from : ℕ → Option (Ranged T) → List (Ranged T) → Option RangeError
  fault_from index last [] = None
  fault_from index last (r ∷ rs) =
      if nat_lt r.to r.from then Some (Reversed index)
      else (if precedes r last then Some (NotSorted index) else fault_from (index + 1) (Some r) rs)

  abbrev pub first_fault : List (Ranged T) → Option RangeError
  first_fault rs = fault_from 0 None rs
