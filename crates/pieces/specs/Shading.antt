-- The styles of the characters of a block.
use Rattle.std.specs.Prelude.{ℕ, Bool, true, ◌&&◌, not, ◌==◌, nat_lt, nat_le, List, [], ◌∷◌, ◌++◌, filter, flat_map, if◌then◌else◌}
use Rattle.range_set.specs.declared.ranged.Ranged.{Ranged}
use Rattle.range_set.specs.Updating.{overlaps}
use Rattle.decoration.specs.declared.deco.Deco.{Deco}
use Rattle.decoration.specs.declared.deco.Deco.TheVariants.{Mark, Line}
use Rattle.decoration.specs.declared.style.Style.{Style}
use Rattle.selection.specs.declared.range.Range.{Range}
use Rattle.selection.specs.Ranges.{low, high, is_empty}
use Rattle.pieces.specs.Styles.{over, plain}
use Rattle.pieces.specs.declared.style_range.StyleRange.{StyleRange}

-- whether a range covers the character at a place
abbrev pub covers : StyleRange → ℕ → Bool
covers r p = nat_le r.from p && nat_lt p r.to

abbrev pub styled : Style → StyleRange → ℕ → Style
styled under r p = if covers r p then over under r.style else under

-- The style of a character: the block's own, under the ranges that cover the character, from the outermost to the innermost.
unfoldable pub style_at : Style → List StyleRange → ℕ → Style
style_at style [] p = style
style_at style (r ∷ rs) p = style_at (styled style r p) rs p

-- the decorations of a set that touch the places from one to another
abbrev pub touching : ℕ → ℕ → List (Ranged Deco) → List (Ranged Deco)
touching from to set = filter (overlaps from to) set

-- a line decoration at the place, over a style
abbrev pub line_over : ℕ → Style → Deco → (at : ℕ) → Style
line_over from under (Line style) at = if at == from then over under style else under
line_over from under d at = under

-- the line decorations at a place, in the order of their set, each over those before it
unfoldable pub line_styled : ℕ → Style → List (Ranged Deco) → Style
line_styled from style [] = style
line_styled from style (d ∷ ds) = line_styled from (line_over from style d.value d.from) ds

-- The style of a block: its line decorations are those at its start, and those of a higher layer stand over those of a lower one.
unfoldable pub block_style : ℕ → List (List (Ranged Deco)) → Style
block_style from [] = plain
block_style from (set ∷ sets) = line_styled from (block_style from sets) (touching from from set)

-- the style of a mark over its characters
abbrev pub mark_range : Deco → (from to : ℕ) → List StyleRange
mark_range (Mark m) from to = record { from = from; to = to; style = m.style } ∷ []
mark_range d from to = []

abbrev pub mark_of : Ranged Deco → List StyleRange
mark_of d = mark_range d.value d.from d.to

-- Marks from the outermost to the innermost: a mark of a higher layer is inner, and in one set the later one is inner.
unfoldable pub marks_of : ℕ → ℕ → List (List (Ranged Deco)) → List StyleRange
marks_of from to [] = []
marks_of from to (set ∷ sets) = marks_of from to sets ++ flat_map mark_of (touching from to set)

abbrev pub reversed : Style
reversed = record plain { reverse = true }

-- a selection range that isn't empty and touches the block reverses its characters
abbrev pub selected : ℕ → ℕ → Range → List StyleRange
selected from to r =
    if not (is_empty r) && (nat_le (low r) to && nat_le from (high r)) then record { from = low r; to = high r; style = reversed } ∷ [] else []

-- What styles the characters of a block, from the outermost to the innermost: the marks, and then the selection.
abbrev pub style_ranges : ℕ → ℕ → List (List (Ranged Deco)) → List Range → List StyleRange
style_ranges from to layers ranges = marks_of from to layers ++ flat_map (selected from to) ranges
