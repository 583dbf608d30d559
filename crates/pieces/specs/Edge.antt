-- The pieces of a block that a window shows.
use Rattle.std.specs.Prelude.{ℕ, ◌+◌, Bool, nat_le, List, [], ◌∷◌, if◌then◌else◌}
use Rattle.pieces.specs.Piece.{PieceView, PiecesView}
use Rattle.pieces.specs.Widths.{width_of}
use Rattle.pieces.specs.declared.edge.Edge.{Edge}

-- whether a column stands past the right edge
abbrev pub is_past : Edge → ℕ → Bool
is_past e at = nat_le (e.left + e.cols) at

-- Up to the right edge: the pieces that begin before it, the first of which begins in column `at`.
unfoldable pub up_to_edge : Edge → ℕ → List PieceView → List PieceView
up_to_edge e at [] = []
up_to_edge e at (p ∷ ps) = if is_past e at then [] else p ∷ up_to_edge e (at + width_of e.tab at p) ps

-- From the left edge: those of them from the first that ends after it on, with the column in which that one begins.
unfoldable pub in_edges : Edge → ℕ → List PieceView → ℕ × List PieceView
in_edges e at [] = (at, [])
in_edges e at (p ∷ ps) =
    if is_past e at then (at, [])
    else if nat_le (at + width_of e.tab at p) e.left then in_edges e (at + width_of e.tab at p) ps
    else (at, p ∷ up_to_edge e (at + width_of e.tab at p) ps)

-- the pieces of a block between the edges of a window
abbrev pub cut_at : Edge → PiecesView → PiecesView
cut_at e p = record { style = p.style; start = (in_edges e p.start p.pieces).0; pieces = (in_edges e p.start p.pieces).1 }
