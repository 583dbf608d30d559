-- Selections: a list of ranges, one of which is the main one, and their normal form (manual: EditorSelection).
use Rattle.std.specs.Prelude.{◌≡◌, ℕ, suc, ◌<◌, ◌≤◌, Bool, true, not, cond, ◌&&◌, ◌||◌, eqb, ltb, leb, List, [], ◌∷◌, map, length, take, drop, Option, Some, None}
use Rattle.std.specs.List.{list_any}
use Rattle.change_desc.specs.declared.section.Section.{Section}
use Rattle.selection.specs.declared.range.Range.{Range}
use Rattle.selection.specs.declared.marked.Marked.{Marked}
use Rattle.selection.specs.declared.error.SelectionError.{SelectionError}
use Rattle.selection.specs.declared.error.SelectionError.TheVariants.{NoRanges, BadMain}
use Rattle.stable_order.specs.StableSort.{stable_sort}
use Rattle.selection.specs.Ranges.{low, high, covers, meet, joined_range, moved_range}

-- A selection as plain data: its ranges, and which of them, counted from 0, is the main one.
pub record SelectionView : Type 0 where
  pub ranges : List Range
  pub main : ℕ

-- each range with whether it is the main one, where the first has the index i
abbrev pub marked_from : (i main : ℕ) → List Range → List Marked
marked_from i main [] = []
marked_from i main (r ∷ rs) = record { range = r; is_main = eqb i main } ∷ marked_from (suc i) main rs

-- the order of ranges: by their lesser ends
abbrev pub begins_before : Marked → Marked → Bool
begins_before a b = ltb (low a.range) (low b.range)

-- two ranges that meet, as one: it is the main one where either was
abbrev pub joined : Marked → Marked → Marked
joined a b = record { range = joined_range a.range b.range; is_main = a.is_main || b.is_main }

-- from left to right, each range joined to the one before it where the two meet
abbrev pub joined_from : Marked → List Marked → List Marked
joined_from a [] = a ∷ []
joined_from a (b ∷ ms) = cond (meet a.range b.range) (joined_from (joined a b) ms) (a ∷ joined_from b ms)

abbrev pub all_joined : List Marked → List Marked
all_joined [] = []
all_joined (a ∷ ms) = joined_from a ms

-- the index of the first that is marked as the main one
abbrev pub main_of : List Marked → ℕ
main_of [] = 0
main_of (m ∷ ms) = cond m.is_main 0 (suc (main_of ms))

abbrev pub range_of : Marked → Range
range_of m = m.range

abbrev pub selection_of : List Marked → SelectionView
selection_of ms = record { ranges = map range_of ms; main = main_of ms }

-- Normal form: the ranges sorted stably by their lesser ends, and joined from left to right where they overlap, or touch where
-- one is empty (manual: EditorSelection.create).
abbrev pub normal_form : List Range → (main : ℕ) → SelectionView
normal_form ranges main = selection_of (all_joined (stable_sort begins_before (marked_from 0 main ranges)))

-- neighbours don't meet
abbrev pub are_apart : List Range → Bool
are_apart [] = true
are_apart (r ∷ []) = true
are_apart (r ∷ q ∷ rs) = not (meet r q) && are_apart (q ∷ rs)

-- what each selection keeps: no two neighbours meet, and one range is the main one
pub record IsSelection (s : SelectionView) : Type 0 where
  pub apart : are_apart s.ranges ≡ true
  pub within : s.main < length s.ranges

-- all ends lie in a document of this length
abbrev pub LieIn : ℕ → List Range → Type 0
LieIn len [] = Unit {0}
LieIn len (r ∷ rs) = (high r ≤ len) × LieIn len rs

-- the greater end of the first range that ends past a document of this length
abbrev pub first_outside : ℕ → List Range → Option ℕ
first_outside len [] = None
first_outside len (r ∷ rs) = cond (ltb len (high r)) (Some (high r)) (first_outside len rs)

-- why ranges make no selection: there are none, or the main one is none of them
abbrev pub selection_refusal : List Range → (main : ℕ) → Option SelectionError
selection_refusal [] main = Some NoRanges
selection_refusal (r ∷ rs) main = cond (leb (length (r ∷ rs)) main) (Some (BadMain main (length (r ∷ rs)))) None

-- Mapped selection: each range mapped, in normal form (manual: EditorSelection.map).
abbrev pub moved_selection : List (Section ℕ) → SelectionView → SelectionView
moved_selection changes s = normal_form (map (moved_range changes) s.ranges) s.main

-- the main range alone (manual: EditorSelection.asSingle)
abbrev pub single_of : SelectionView → SelectionView
single_of s = record { ranges = take 1 (drop s.main s.ranges); main = 0 }

-- Covered: whether one of the ranges covers a place.
abbrev pub is_covered : (place : ℕ) → List Range → Bool
is_covered place = list_any (covers place)

-- whether the range with an index covers it
abbrev pub is_covered_at : (index place : ℕ) → List Range → Bool
is_covered_at index place ranges = is_covered place (take 1 (drop index ranges))
