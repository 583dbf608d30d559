-- Which ranges of the old text a set of changes replaces, and how they meet a given range.
use Rattle.std.specs.Prelude.{ℕ, ◌+◌, Bool, true, false, cond, ◌&&◌, eqb, ltb, leb, List, [], ◌∷◌}
use Rattle.change_desc.specs.declared.section.Section.{Section}
use Rattle.change_desc.specs.declared.section.Section.TheVariants.{Keep, Replace}
use Rattle.change_desc.specs.declared.changed_range.ChangedRange.{ChangedRange}
use Rattle.change_desc.specs.declared.touch.Touch.{Touch}
use Rattle.change_desc.specs.declared.touch.Touch.TheVariants.{No, Yes, Cover}

-- Changes nothing: no section replaces (manual: ChangeDesc.empty).
abbrev pub changes_nothing : {T : Type 0} → List (Section T) → Bool
changes_nothing [] = true
changes_nothing (Keep n ∷ s) = changes_nothing s
changes_nothing (Replace n t ∷ s) = false

-- The Replaces with their places in the old and in the new text, where the list begins at the places a and b.
abbrev pub replaced_from : (a b : ℕ) → List (Section ℕ) → List ChangedRange
replaced_from a b [] = []
replaced_from a b (Keep n ∷ s) = replaced_from (a + n) (b + n) s
replaced_from a b (Replace n t ∷ s) =
    record { from_a = a; to_a = a + n; from_b = b; to_b = b + t } ∷ replaced_from (a + n) (b + t) s

-- The replaced ranges, from left to right (manual: ChangeDesc.iterChangedRanges with individual true).
abbrev pub replaced : List (Section ℕ) → List ChangedRange
replaced s = replaced_from 0 0 s

-- from the start of one range to the end of another
abbrev pub covering : ChangedRange → ChangedRange → ChangedRange
covering r q = record { from_a = r.from_a; to_a = q.to_a; from_b = r.from_b; to_b = q.to_b }

-- a range before others, as one range with the first of them where the two touch
abbrev pub with_range : ChangedRange → List ChangedRange → List ChangedRange
with_range r [] = r ∷ []
with_range r (q ∷ qs) = cond (eqb r.to_a q.from_a) (covering r q ∷ qs) (r ∷ q ∷ qs)

-- Ranges with those that touch made one (manual: ChangeDesc.iterChangedRanges with individual false).
abbrev pub united : List ChangedRange → List ChangedRange
united [] = []
united (r ∷ rs) = with_range r (united rs)

-- The changed ranges, each Replace by itself or those that touch as one (manual: ChangeDesc.iterChangedRanges).
abbrev pub changed_ranges : (individual : Bool) → List (Section ℕ) → List ChangedRange
changed_ranges true s = replaced s
changed_ranges false s = united (replaced s)

-- whether a replaced range overlaps or touches a range of the old text
abbrev pub meets : (from to : ℕ) → ChangedRange → Bool
meets from to r = leb r.from_a to && leb from r.to_a

-- how it does: it goes on beyond both ends, or not
abbrev pub touch_of : (from to : ℕ) → ChangedRange → Touch
touch_of from to r = cond (ltb r.from_a from && ltb to r.to_a) Cover Yes

-- Touch: how the first replaced range that overlaps or touches the given one does (manual: ChangeDesc.touchesRange).
abbrev pub touches : (from to : ℕ) → List ChangedRange → Touch
touches from to [] = No
touches from to (r ∷ rs) = cond (meets from to r) (touch_of from to r) (touches from to rs)
