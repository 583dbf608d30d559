-- The piece of a block that stands at a place.
use Rattle.std.specs.Prelude.{ℕ, ◌+◌, List, [], ◌∷◌, if◌then◌else◌}
use Rattle.pieces.specs.Piece.{PieceView, PiecesView}
use Rattle.pieces.specs.Widths.{is_before, width_of}

-- the first piece that doesn't stand before the cursor at a place, if there is one, and the column after those that do
unfoldable pub first_after : (tab pos : ℕ) → ℕ → List PieceView → ℕ × List PieceView
first_after tab pos at [] = (at, [])
first_after tab pos at (p ∷ ps) = if is_before pos p then first_after tab pos (at + width_of tab at p) ps else (at, p ∷ [])

-- At a place: of the pieces of a block the one at the cursor, which may be none.
abbrev pub piece_at : (tab pos : ℕ) → PiecesView → PiecesView
piece_at tab pos p = record { style = p.style; start = (first_after tab pos p.start p.pieces).0; pieces = (first_after tab pos p.start p.pieces).1 }
