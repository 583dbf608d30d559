-- What pieces show, and its equality as a test.
use lib.Pointwise.{pointwise}
use Rattle.std.specs.Prelude.{ℕ, Bool, ◌&&◌, nat_eq, List, map}
use Rattle.std.specs.Str.{bytes_eq}
use Rattle.decoration.specs.declared.style.Style.{Style}
use Rattle.pieces.specs.Piece.{PieceView, PiecesView}
use Rattle.pieces.specs.Styles.{same_style}

-- what a piece shows: its text and its style, wherever it stands
abbrev pub look : PieceView → List ℕ × Style
look p = (p.text, p.style)

-- Look: what the pieces of a block show, from which column on, and the block's own style.
abbrev pub look_of : PiecesView → Style × ℕ × List (List ℕ × Style)
look_of p = (p.style, p.start, map look p.pieces)

abbrev pub same_piece : PieceView → PieceView → Bool
same_piece a b = same_style a.style b.style && bytes_eq a.text b.text

abbrev pub same_pieces : PiecesView → PiecesView → Bool
same_pieces a b = same_style a.style b.style && nat_eq a.start b.start && pointwise same_piece a.pieces b.pieces
