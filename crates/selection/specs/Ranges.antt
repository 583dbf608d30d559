-- Ranges of a selection: their ends, their direction, and where changes move them (manual: SelectionRange).
use Rattle.std.specs.Prelude.{ℕ, min, max, Bool, true, false, cond, ◌&&◌, ◌||◌, eqb, leb, ltb, List}
use Rattle.change_desc.specs.declared.section.Section.{Section}
use Rattle.change_desc.specs.Places.{place_after}
use Rattle.selection.specs.declared.range.Range.{Range}

-- the lesser and the greater end
abbrev pub low : Range → ℕ
low r = min r.anchor r.head

abbrev pub high : Range → ℕ
high r = max r.anchor r.head

-- a cursor
abbrev pub is_empty : Range → Bool
is_empty r = eqb r.anchor r.head

abbrev pub is_backward : Range → Bool
is_backward r = ltb r.head r.anchor

abbrev pub cursor : ℕ → Range
cursor p = record { anchor = p; head = p }

-- the range between two places, in a direction
abbrev pub ordered_range : (from to : ℕ) → (backward : Bool) → Range
ordered_range from to true = record { anchor = to; head = from }
ordered_range from to false = record { anchor = from; head = to }

-- Covering: a range covers each place from its lesser to its greater end, both ends included. So a cursor covers its own place,
-- and where two ranges touch, both cover the place at which they do.
abbrev pub covers : (place : ℕ) → Range → Bool
covers place r = leb (low r) place && leb place (high r)

-- Meeting: two ranges, the second of which doesn't begin before the first, overlap, or touch where one is empty.
abbrev pub meet : Range → Range → Bool
meet a b = ltb (low b) (high a) || (eqb (low b) (high a) && (is_empty a || is_empty b))

-- Joined: from the start of the first to the greater end of both; it points backward exactly where the later does.
abbrev pub joined_range : Range → Range → Range
joined_range a b = ordered_range (low a) (max (high a) (high b)) (is_backward b)

-- the range between two mapped ends, a cursor at the second where they crossed
abbrev pub uncrossed : (from to : ℕ) → (backward : Bool) → Range
uncrossed from to backward = cond (ltb to from) (cursor to) (ordered_range from to backward)

-- Mapped range: a cursor stays before what is inserted at its place; another range's start goes after it and its end stays
-- before it, so that it doesn't grow; where the ends cross it is a cursor at the mapped end. Its direction is kept.
abbrev pub moved_range : List (Section ℕ) → Range → Range
moved_range changes r =
    cond (is_empty r) (cursor (place_after changes r.head true))
    (uncrossed (place_after changes (low r) false) (place_after changes (high r) true) (is_backward r))
