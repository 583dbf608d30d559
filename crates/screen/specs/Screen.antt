-- What a screen shows, and how many of its rows differ from those drawn last.
use Rattle.std.specs.Prelude.{ℕ, zero, suc, ◌+◌, Bool, ◌&&◌, nat_eq, List, [], ◌∷◌, Option, Some, None, is_some, slice_get, if◌then◌else◌}
use Rattle.range_set.specs.declared.ranged.Ranged.{Ranged}
use Rattle.decoration.specs.declared.deco.Deco.{Deco}
use Rattle.selection.specs.Selections.{SelectionView}
use Rattle.line_tree.specs.declared.line.Line as lines
use Rattle.viewport.specs.Window.{Window}
use Rattle.blocks.specs.Hiding.{blocks_of}
use Rattle.pieces.specs.Edge.{cut_at}
use Rattle.pieces.specs.declared.edge.Edge.{Edge}
use Rattle.pieces.specs.Piece.{PiecesView}
use Rattle.pieces.specs.Rules.{pieces_of}
use Rattle.pieces.specs.SamePieces.{same_pieces}
use Rattle.pieces.specs.Styles.{plain}
use Rattle.line_rows.specs.declared.cursor.Cursor.{Cursor}
use Rattle.line_rows.specs.Row.{row_of}
use Rattle.line_rows.specs.declared.rows.StyledCell.{StyledCell}
use Rattle.screen.specs.declared.view.View.{View}

-- what a row depends on: the pieces of its block between the window's edges with the block's style, the tab size, and the
-- columns that it shows
pub record RowKey : Type 0 where
  pub pieces : PiecesView
  pub tab : ℕ
  pub cols : ℕ
  pub left : ℕ

abbrev pub same_key : RowKey → RowKey → Bool
same_key a b = nat_eq a.tab b.tab && nat_eq a.cols b.cols && nat_eq a.left b.left && same_pieces a.pieces b.pieces

-- what a view shows: the characters of a document, its selection, the layers of decorations, the tab size and the window
pub record ViewView : Type 0 where
  pub text : List ℕ
  pub selection : SelectionView
  pub layers : List (List (Ranged Deco))
  pub tab : ℕ
  pub window : Window

abbrev pub shown_view : View → ViewView
shown_view v = record { text = v.doc.now.characters; selection = v.selection.now; layers = v.layers.now; tab = v.tab; window = v.window.now }

-- the block of a number, which counts from 1
abbrev pub block_at : ViewView → ℕ → Option lines.Line
block_at v zero = None
block_at v (suc n) = slice_get (blocks_of v.text v.layers) n

-- the pieces of a block
abbrev pub block_pieces : ViewView → lines.Line → PiecesView
block_pieces v block = pieces_of v.text block.from block.to v.layers v.selection.ranges

-- the pieces of a row: those of its block, and none past the last block
abbrev pub pieces_at : ViewView → Option lines.Line → PiecesView
pieces_at v (Some block) = block_pieces v block
pieces_at v None = record { style = plain; start = 0; pieces = [] }

-- the edges of the window
abbrev pub edge_of : ViewView → Edge
edge_of v = record { tab = v.tab; left = v.window.left; cols = v.window.cols }

abbrev pub key_at : ViewView → ℕ → RowKey
key_at v number = record { pieces = cut_at (edge_of v) (pieces_at v (block_at v number)); tab = v.tab; cols = v.window.cols; left = v.window.left }

-- so many rows, the first of which shows the block of a number
unfoldable pub rows_from : ViewView → ℕ → ℕ → List RowKey
rows_from v number zero = []
rows_from v number (suc n) = key_at v number ∷ rows_from v (number + 1) n

-- Drawn: the rows of the window, of which row i, from 0, shows block `top + i`.
abbrev pub drawn : ViewView → List RowKey
drawn v = rows_from v v.window.top v.window.rows

abbrev pub row_cells : RowKey → List StyledCell
row_cells k = row_of k.tab k.cols k.left k.pieces

-- the cells of so many rows, the first of which shows the block of a number
unfoldable pub rendered_from : ViewView → ℕ → ℕ → List (List StyledCell)
rendered_from v number zero = []
rendered_from v number (suc n) =
    row_of v.tab v.window.cols v.window.left (pieces_at v (block_at v number)) ∷ rendered_from v (number + 1) n

-- Rendered: the cells of the window's rows, each made anew from all pieces of its block.
abbrev pub rendered : ViewView → List (List StyledCell)
rendered v = rendered_from v v.window.top v.window.rows

-- how many of so many rows, the first of which shows the block of a number, show a block
unfoldable pub shown_from : ViewView → ℕ → ℕ → ℕ
shown_from v number zero = 0
shown_from v number (suc n) = (if is_some (block_at v number) then 1 else 0) + shown_from v (number + 1) n

-- Shown rows: how many rows of the window show a block.
abbrev pub shown_count : ViewView → ℕ
shown_count v = shown_from v v.window.top v.window.rows

-- what contracts see of a screen: what its rows were laid out from, and where the cursor stands
pub record ScreenView : Type 0 where
  pub rows : List RowKey
  pub cursor : Cursor

-- 1 where a row differs from the old one in its place, or has none there
abbrev pub cost : Option RowKey → RowKey → ℕ
cost (Some old) new = if same_key old new then 0 else 1
cost None new = 1

-- Changed: how many of the new rows differ from the old row in the same place, or have none there.
unfoldable pub changed : List RowKey → List RowKey → ℕ
changed old [] = 0
changed [] (new ∷ news) = cost None new + changed [] news
changed (old ∷ olds) (new ∷ news) = cost (Some old) new + changed olds news
