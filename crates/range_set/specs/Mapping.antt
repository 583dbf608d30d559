-- Where changes move ranges (Reference Manual: RangeSet.map).
use Rattle.std.specs.Prelude.{ℕ, ◌+◌, ◌*◌, Bool, ◌&&◌, ◌||◌, ℤ, pos, int_lt, int_le, nat_le, nat_lt, ◌==◌, if◌then◌else◌, List, length, filter, Option, Some, None, option_map, option_and_then, filter_map, ◌≤◌, All}
use Rattle.std.specs.List.{list_any}
use Rattle.change_desc.specs.declared.section.Section.{Section}
use Rattle.change_desc.specs.declared.map_mode.MapMode.{MapMode}
use Rattle.change_desc.specs.declared.map_mode.MapMode.TheVariants.{Simple}
use Rattle.change_desc.specs.Sections.{counted}
use Rattle.change_desc.specs.Positions.{is_negative, map_pos}
use Rattle.change_desc.specs.Ranges.{meets, replaced}
use Rattle.change_desc.specs.declared.changed_range.ChangedRange.{ChangedRange}
use Rattle.stable_order.specs.StableSort.{stable_sort}
use Rattle.range_set.specs.Rules.{RangeRules}
use Rattle.range_set.specs.Order.{before}
use Rattle.range_set.specs.declared.ranged.Ranged.{Ranged}

-- changes as a list of sections, and two ends
abbrev pub Changes : Type 0
Changes = List (Section ℕ)

abbrev pub Ends : Type 0
Ends = Option (ℕ × ℕ)

-- where a place goes by a side, unless the mode loses it; the mode Simple never does
abbrev pub place_of : Changes → ℕ → ℤ → MapMode → Option ℕ
place_of d place side mode = map_pos counted d place (is_negative side) mode

-- An empty range starts where its place goes by the start side in its value's mode, and is dropped where that is nowhere.
-- It ends where its place goes by the end side, and is dropped where that is less; with one side for both it stays empty.
abbrev pub point_ends : Changes → ℕ → (start_side end_side : ℤ) → MapMode → Ends
point_ends d place start_side end_side mode =
    option_and_then
    (λ from. option_and_then (λ to. if nat_lt to from then None else Some (from, to)) (place_of d place end_side Simple))
    (place_of d place start_side mode)

-- Another range's ends go each by its side. It is dropped where they turn round, and where they meet with a start side
-- over 0 and an end side of at most 0: one that is inclusive at an end may become empty.
abbrev pub span_ends : Changes → (from to : ℕ) → (start_side end_side : ℤ) → Ends
span_ends d from to start_side end_side =
    option_and_then
    (λ p. option_and_then
    (λ q. if nat_lt q p || (p == q && int_lt (pos 0) start_side && int_le end_side (pos 0)) then None else Some (p, q))
    (place_of d to end_side Simple))
    (place_of d from start_side Simple)

-- what has become empty is dropped where its end side is less than its start side
abbrev pub ends_unless_turned : (start_side end_side : ℤ) → (from to : ℕ) → Ends
ends_unless_turned start_side end_side from to = if from == to && int_lt end_side start_side then None else Some (from, to)

module _ {T : Type 0} (rules : RangeRules T) where
  abbrev pub new_ends : Changes → Ranged T → Ends
  new_ends d r =
      let start_side = rules.start_side r.value in
      let end_side = rules.end_side r.value in
      option_and_then (λ ends. ends_unless_turned start_side end_side ends.0 ends.1)
      (if r.from == r.to then point_ends d r.from start_side end_side (rules.mode r.value) else span_ends d r.from r.to start_side end_side)

  -- the range at its new ends, if there are any
  abbrev pub moved : Changes → Ranged T → Option (Ranged T)
  moved d r = option_map (λ ends. record { from = ends.0; to = ends.1; value = r.value }) (new_ends d r)

  -- each range is moved, what is dropped is left out, and the rest is sorted, ties as they stood
  abbrev pub map_ranges : Changes → List (Ranged T) → List (Ranged T)
  map_ranges d rs = stable_sort (before rules) (filter_map (moved d) rs)

  -- an empty range whose end side is less than its start side
  abbrev pub is_turned : Ranged T → Bool
  is_turned r = r.from == r.to && int_lt (rules.end_side r.value) (rules.start_side r.value)

  -- Affected: a range that overlaps or touches the old range of a Replace, or that is empty with an end side less than its
  -- start side.
  abbrev pub is_affected : Changes → Ranged T → Bool
  is_affected d r = list_any (meets r.from r.to) (replaced d) || is_turned r

-- whether a replaced range overlaps or touches the hull of ranges, which runs from their least start to their greatest end
abbrev pub meets_hull : {T : Type 0} → List (Ranged T) → ChangedRange → Bool
meets_hull rs c = list_any (λ r. nat_le c.from_a r.to) rs && list_any (λ r. nat_le r.from c.to_a) rs

-- How many ranges are mapped one by one, at most: 128 for each affected range, and for each Replace that overlaps or touches
-- the hull of the whole set.
abbrev pub most_mapped : {T : Type 0} → RangeRules T → Changes → List (Ranged T) → ℕ
most_mapped rules d rs = 128 * (length (filter (is_affected rules d) rs) + length (filter (meets_hull rs) (replaced d)))

-- each range lies in a text of this length
abbrev pub EndWithin : {T : Type 0} → ℕ → List (Ranged T) → Type 0
EndWithin len rs = All (λ r. (r.from ≤ len) × (r.to ≤ len)) rs
