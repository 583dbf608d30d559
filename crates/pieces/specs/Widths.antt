-- The columns of pieces that stand side by side.
use Rattle.std.specs.Prelude.{ℕ, Bool, ◌&&◌, ◌||◌, ◌==◌, nat_lt, length}
use Rattle.cells.specs.Layout.{cells_of}
use Rattle.pieces.specs.Piece.{PieceView}

-- how many columns a piece takes that begins in a column
abbrev pub width_of : ℕ → ℕ → PieceView → ℕ
width_of tab column p = length (cells_of tab column p.text)

-- whether a piece stands before the cursor at a place: it starts before the place, or is a widget there of side at most 0
abbrev pub is_before : ℕ → PieceView → Bool
is_before pos p = nat_lt p.place pos || (p.place == pos && p.before_cursor)
