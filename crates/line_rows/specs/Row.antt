-- The cells of a row.
use Rattle.std.specs.Prelude.{ℕ, ◌+◌, ◌-◌, nat_lt, nat_le, ◌&&◌, List, [], ◌∷◌, ◌++◌, length, replicate, if◌then◌else◌}
use Rattle.cells.specs.Layout.{Shown, blank, is_whole, cells_of}
use Rattle.pieces.specs.Piece.{PieceView, PiecesView}
use Rattle.decoration.specs.declared.style.Style.{Style}
use Rattle.line_rows.specs.declared.rows.StyledCell.{StyledCell}

-- Cut clusters: a cell of a cluster that an edge of the window cuts is a blank.
abbrev pub whole_or_blank : ℕ → ℕ → Shown → Shown
whole_or_blank cols offset cell = if is_whole cols offset cell then cell else blank

-- the cell in a column, where the window shows that column
abbrev pub shown_cell : ℕ → ℕ → Style → ℕ → Shown → List StyledCell
shown_cell left cols style column cell =
    if nat_le left column && nat_lt (column - left) cols then record { cell = whole_or_blank cols (column - left) cell; style = style } ∷ [] else []

-- of cells that begin in column `at`, those in the columns from `left` to `left + cols - 1`
unfoldable pub in_window : ℕ → ℕ → Style → ℕ → List Shown → List StyledCell
in_window left cols style at [] = []
in_window left cols style at (cell ∷ cells) =
    shown_cell left cols style at cell ++ in_window left cols style (at + 1) cells

-- the same of pieces, of which each begins where the one before ended
unfoldable pub pieces_in_window : ℕ → ℕ → ℕ → ℕ → List PieceView → List StyledCell
pieces_in_window tab left cols at [] = []
pieces_in_window tab left cols at (piece ∷ pieces) =
    let cells = cells_of tab at piece.text in
    in_window left cols piece.style at cells ++ pieces_in_window tab left cols (at + length cells) pieces

-- cells up to `cols`, with blanks in the block's style after them
abbrev pub filled : ℕ → Style → List StyledCell → List StyledCell
filled cols style cells = cells ++ replicate (cols - length cells) (record { cell = blank; style = style })

-- Row: the cells in the columns from `left` to `left + cols - 1` of a block's pieces, and blanks in the block's style after the
-- text.
abbrev pub row_of : ℕ → ℕ → ℕ → PiecesView → List StyledCell
row_of tab cols left p = filled cols p.style (pieces_in_window tab left cols p.start p.pieces)
