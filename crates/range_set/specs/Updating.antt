-- Ranges that a test allows, with others (Reference Manual: RangeSet.update, RangeSet.between).
use Rattle.std.specs.Prelude.{◌≡◌, ℕ, Bool, ◌&&◌, nat_le, List, ◌++◌, filter}
use Rattle.std.specs.Fn.{FnReturnsAt}
use denote.Param.Members.{Shared}
use denote.Ref.{Bor}
use Rattle.stable_order.specs.StableSort.{stable_sort}
use Rattle.range_set.specs.Rules.{RangeRules}
use Rattle.range_set.specs.Order.{before}
use Rattle.range_set.specs.Seen.{seen}
use Rattle.range_set.specs.declared.ranged.Ranged.{Ranged}
use Rattle.range_set.specs.declared.range_ref.RangeRef.{RangeRef}

-- each answer of the closure, of a range as an iterator lends it, is that of the test
abbrev pub AnswersAs : {F T : Type 0} → Shared F (Bor (RangeRef T) × Unit {0}) Bool → F → (Ranged T → Bool) → Type 0
AnswersAs {F} {T} g f p = (x : RangeRef T) (r : Bool) → FnReturnsAt g f x r → r ≡ p (seen x)

-- the old ranges that the test allows and the added ones, in order, the old ones first where they tie
abbrev pub updated : {T : Type 0} → RangeRules T → (Ranged T → Bool) → (old add : List (Ranged T)) → List (Ranged T)
updated rules p old add = stable_sort (before rules) (filter p old ++ add)

-- whether a range overlaps or touches the span between two places
abbrev pub overlaps : {T : Type 0} → (from to : ℕ) → Ranged T → Bool
overlaps from to r = nat_le r.from to && nat_le from r.to
