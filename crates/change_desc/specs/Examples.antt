-- Worked examples of the definitions on short texts, each by computation. Characters stand as their codes: 97 is 'a', 120 is 'x'.
use Rattle.std.specs.Prelude.{◌≡◌, true, false, [], ◌∷◌, refl, Some, None}
use Rattle.change_desc.specs.declared.section.Section.TheVariants.{Keep, Replace}
use Rattle.change_desc.specs.declared.map_mode.MapMode.TheVariants.{Simple, TrackDel, TrackBefore, TrackAfter}
use Rattle.change_desc.specs.Sections.{Sections, spelled, counted, apply, invert, lengths}
use Rattle.change_desc.specs.Positions.{map_pos}
use Rattle.change_desc.specs.declared.touch.Touch.TheVariants.{No, Yes, Cover}
use Rattle.change_desc.specs.Ranges.{changed_ranges, changes_nothing, replaced, touches}
use Rattle.change_desc.specs.Compose.{compose}
use Rattle.change_desc.specs.Map.{merge, map_over}
use Rattle.change_desc.specs.Of.{of, span}
use Rattle.change_desc.specs.Filter.{filter_kept, filter_dropped}

-- 'abc' with '!' after it and its 'a' deleted, in one list of changes: 'bc!'
abbrev pub insert_and_delete : Sections
insert_and_delete = of spelled 3 (span spelled 3 3 3 (33 ∷ []) ∷ span spelled 3 0 1 ([]) ∷ [])

pub several : apply insert_and_delete (97 ∷ 98 ∷ 99 ∷ []) ≡ (98 ∷ 99 ∷ 33 ∷ [])
several = refl

-- 'ab' with 'XY' between: a position there stays before the text on a negative side and goes after it on any other
abbrev pub insertion : Sections
insertion = of spelled 2 (span spelled 2 1 1 (88 ∷ 89 ∷ []) ∷ [])

pub insertion-sections : insertion ≡ Keep 1 ∷ Replace 0 (88 ∷ 89 ∷ []) ∷ Keep 1 ∷ []
insertion-sections = refl

pub insertion-text : apply insertion (97 ∷ 98 ∷ []) ≡ (97 ∷ 88 ∷ 89 ∷ 98 ∷ [])
insertion-text = refl

pub insertion-left : map_pos spelled insertion 1 true Simple ≡ Some 1
insertion-left = refl

pub insertion-right : map_pos spelled insertion 1 false Simple ≡ Some 3
insertion-right = refl

pub insertion-del : map_pos spelled insertion 1 false TrackDel ≡ Some 3
insertion-del = refl

-- 'abcd' with 'x' for its first two characters and 'y' for the others: two sections, and their border is a place that both keep
abbrev pub touching : Sections
touching = of spelled 4 (span spelled 4 0 2 (120 ∷ []) ∷ span spelled 4 2 4 (121 ∷ []) ∷ [])

pub touching-sections : touching ≡ Replace 2 (120 ∷ []) ∷ Replace 2 (121 ∷ []) ∷ []
touching-sections = refl

pub touching-text : apply touching (97 ∷ 98 ∷ 99 ∷ 100 ∷ []) ≡ (120 ∷ 121 ∷ [])
touching-text = refl

pub touching-left : map_pos spelled touching 2 true Simple ≡ Some 1
touching-left = refl

pub touching-right : map_pos spelled touching 2 false Simple ≡ Some 1
touching-right = refl

pub touching-del : map_pos spelled touching 2 false TrackDel ≡ Some 1
touching-del = refl

pub touching-before : map_pos spelled touching 2 false TrackBefore ≡ None
touching-before = refl

-- 'abc' with 'x' for its first two characters and 'y' for its last two: what both delete goes once
abbrev pub overlapping : Sections
overlapping = of spelled 3 (span spelled 3 0 2 (120 ∷ []) ∷ span spelled 3 1 3 (121 ∷ []) ∷ [])

pub overlapping-sections : overlapping ≡ Replace 2 (120 ∷ []) ∷ Replace 1 (121 ∷ []) ∷ []
overlapping-sections = refl

pub overlapping-text : apply overlapping (97 ∷ 98 ∷ 99 ∷ []) ≡ (120 ∷ 121 ∷ [])
overlapping-text = refl

-- 'abcd' with 'xy' for all: inside, a negative side gives the start and any other the end; at the end both give the end
abbrev pub all_replaced : Sections
all_replaced = of spelled 4 (span spelled 4 0 4 (120 ∷ 121 ∷ []) ∷ [])

pub inside-left : map_pos spelled all_replaced 2 true Simple ≡ Some 0
inside-left = refl

pub inside-right : map_pos spelled all_replaced 2 false Simple ≡ Some 2
inside-right = refl

pub inside-del : map_pos spelled all_replaced 2 false TrackDel ≡ None
inside-del = refl

pub end-left : map_pos spelled all_replaced 4 true Simple ≡ Some 2
end-left = refl

pub end-right : map_pos spelled all_replaced 4 false Simple ≡ Some 2
end-right = refl

pub end-after : map_pos spelled all_replaced 4 false TrackAfter ≡ Some 2
end-after = refl

pub end-before : map_pos spelled all_replaced 4 false TrackBefore ≡ None
end-before = refl

-- 'ab' with 'x' in the middle and with 'y' there: each moved over the other, and the merge of both
abbrev pub x_at_1 : Sections
x_at_1 = of spelled 2 (span spelled 2 1 1 (120 ∷ []) ∷ [])

abbrev pub y_at_1 : Sections
y_at_1 = of spelled 2 (span spelled 2 1 1 (121 ∷ []) ∷ [])

pub map-after : map_over spelled y_at_1 (lengths spelled x_at_1) false ≡ Keep 2 ∷ Replace 0 (121 ∷ []) ∷ Keep 1 ∷ []
map-after = refl

pub map-before : map_over spelled x_at_1 (lengths spelled y_at_1) true ≡ Keep 1 ∷ Replace 0 (120 ∷ []) ∷ Keep 2 ∷ []
map-before = refl

pub merge-text : merge x_at_1 y_at_1 false (97 ∷ 98 ∷ []) ≡ (97 ∷ 120 ∷ 121 ∷ 98 ∷ [])
merge-text = refl

-- 'abcd' without its two middle characters and then 'Z' in their place: a deletion and an insertion, in this order; and the way back
abbrev pub deletion : Sections
deletion = of spelled 4 (span spelled 4 1 3 ([]) ∷ [])

abbrev pub z_at_1 : Sections
z_at_1 = of spelled 2 (span spelled 2 1 1 (90 ∷ []) ∷ [])

pub compose-sections : compose spelled deletion z_at_1 ≡ Keep 1 ∷ Replace 2 ([]) ∷ Replace 0 (90 ∷ []) ∷ Keep 1 ∷ []
compose-sections = refl

pub compose-lengths : compose counted (lengths spelled deletion) (lengths spelled z_at_1) ≡ Keep 1 ∷ Replace 2 0 ∷ Replace 0 1 ∷ Keep 1 ∷ []
compose-lengths = refl

pub compose-text : apply (compose spelled deletion z_at_1) (97 ∷ 98 ∷ 99 ∷ 100 ∷ []) ≡ (97 ∷ 90 ∷ 100 ∷ [])
compose-text = refl

pub invert-sections : invert deletion (97 ∷ 98 ∷ 99 ∷ 100 ∷ []) ≡ Keep 1 ∷ Replace 0 (98 ∷ 99 ∷ []) ∷ Keep 1 ∷ []
invert-sections = refl

-- 'abcdef' with 'X' for 'bcd', where the first two characters are protected: 'b' stays and 'X' goes with it
abbrev pub one_replaced : Sections
one_replaced = of spelled 6 (span spelled 6 1 4 (88 ∷ []) ∷ [])

pub filter-sections : filter_kept spelled ((0, 2) ∷ []) one_replaced ≡ Keep 2 ∷ Replace 2 ([]) ∷ Keep 2 ∷ []
filter-sections = refl

pub filter-dropped : filter_dropped spelled ((0, 2) ∷ []) one_replaced ≡ Keep 1 ∷ Replace 1 (88 ∷ []) ∷ Keep 4 ∷ []
filter-dropped = refl

-- a place at the end of the text is not strictly inside a range that goes past it
abbrev pub appended : Sections
appended = Keep 2 ∷ Replace 0 (120 ∷ []) ∷ []

pub filter-end : filter_kept spelled ((1, 9) ∷ []) appended ≡ appended
filter-end = refl

-- two protected ranges that touch are one, so an insertion between them is strictly inside
abbrev pub between_two : Sections
between_two = Keep 1 ∷ Replace 0 (120 ∷ []) ∷ Keep 1 ∷ []

pub filter-touching : filter_dropped spelled ((0, 1) ∷ (1, 2) ∷ []) between_two ≡ between_two
filter-touching = refl

-- The ranges of 'abcd' with 'x' for its first two characters and 'y' for the others: two, or one where those that touch are made one.
pub touching-individual : changed_ranges true (lengths spelled touching) ≡
    (record { from_a = 0; to_a = 2; from_b = 0; to_b = 1 }) ∷ (record { from_a = 2; to_a = 4; from_b = 1; to_b = 2 }) ∷ []
touching-individual = refl

pub touching-united : changed_ranges false (lengths spelled touching) ≡ (record { from_a = 0; to_a = 4; from_b = 0; to_b = 2 }) ∷ []
touching-united = refl

-- The replaced range from 1 to 4 of six characters: it covers what lies strictly inside, touches what begins at its end, and misses the rest.
pub covers-inside : touches 2 3 (replaced (lengths spelled one_replaced)) ≡ Cover
covers-inside = refl

pub touches-start : touches 1 3 (replaced (lengths spelled one_replaced)) ≡ Yes
touches-start = refl

pub touches-end : touches 4 6 (replaced (lengths spelled one_replaced)) ≡ Yes
touches-end = refl

pub misses-rest : touches 5 6 (replaced (lengths spelled one_replaced)) ≡ No
misses-rest = refl

-- a set with a change is not empty, and one that keeps all is
pub changes-some : changes_nothing touching ≡ false
changes-some = refl
