-- Where the main range's head stands: its block, its column, and the cursor in the window.
use Rattle.std.specs.Prelude.{ℕ, ◌-◌, Bool, ◌&&◌, nat_le, Option, IsSomeAnd, find, option_map, option_and_then, slice_get}
use Rattle.std.specs.Option.{option_map_or}
use Rattle.selection.specs.declared.range.Range.{Range}
use Rattle.line_tree.specs.declared.line.Line as lines
use Rattle.viewport.specs.Window.{Window}
use Rattle.viewport.specs.Reveal.{Shows}
use Rattle.blocks.specs.Hiding.{blocks_of}
use Rattle.line_rows.specs.Column.{column_of}
use Rattle.line_rows.specs.declared.cursor.Cursor.{Cursor}
use Rattle.screen.specs.declared.head.HeadPlace.{HeadPlace}
use Rattle.screen.specs.Screen.{ViewView, block_pieces}

-- whether a place of the document stands in a block: the block begins at or before it, and ends at or after it
abbrev pub stands_in : (place : ℕ) → lines.Line → Bool
stands_in place block = nat_le block.from place && nat_le place block.to

-- the block in which a place stands, which is the first
abbrev pub block_with : ViewView → (place : ℕ) → Option lines.Line
block_with v place = find (stands_in place) (blocks_of v.text v.layers)

-- a place in its block: the block's number, the column, and the width of the piece that stands there
abbrev pub place_in : ViewView → (place : ℕ) → lines.Line → HeadPlace
place_in v place block =
    let found = column_of v.tab (place - block.from) 0 (block_pieces v block).pieces in
    record { number = block.number; column = found.0; width = found.1 }

abbrev pub placed : ViewView → (place : ℕ) → Option HeadPlace
placed v place = option_map (place_in v place) (block_with v place)

-- the place of the main range's head in the document
abbrev pub main_head : ViewView → Option ℕ
main_head v = option_map (λ (r : Range). r.head) (slice_get v.selection.ranges v.selection.main)

-- Head place: the number of the block in which the main range's head stands, its column, and the width of the piece that stands
-- there.
abbrev pub head_place : ViewView → Option HeadPlace
head_place v = option_and_then (placed v) (main_head v)

-- the window shows the block and the column of the main range's head
abbrev pub ShowsHead : ViewView → Type 0
ShowsHead v = IsSomeAnd (head_place v) (λ p. Shows v.window p.number p.column 1)

-- a place counted from the window's first row and column
abbrev pub place_from : Window → HeadPlace → Cursor
place_from w p = record { row = p.number - w.top; column = p.column - w.left }

-- Cursor: the row and the column in the window of the main range's head, from 0.
abbrev pub cursor_in : ViewView → Cursor
cursor_in v = option_map_or (place_from v.window) (head_place v) (record { row = 0; column = 0 })
