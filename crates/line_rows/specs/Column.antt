-- The column of a place of a block.
use Rattle.std.specs.Prelude.{ℕ, ◌+◌, max, List, [], ◌∷◌, if◌then◌else◌}
use Rattle.pieces.specs.Piece.{PieceView}
use Rattle.pieces.specs.Widths.{is_before, width_of}

-- Column: the sum of the widths of the pieces before the cursor, the first of which begins in `column`; and the width of the
-- piece after it, which is at least 1, and 1 where there is none.
unfoldable pub column_of : ℕ → ℕ → ℕ → List PieceView → ℕ × ℕ
column_of tab pos column [] = (column, 1)
column_of tab pos column (p ∷ ps) =
    if is_before pos p then column_of tab pos (column + width_of tab column p) ps else (column, max (width_of tab column p) 1)
