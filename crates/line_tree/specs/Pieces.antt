-- The pieces in which a leaf keeps its characters. For private clauses.
use Rattle.std.specs.Prelude.{◌≡◌, ℕ, ◌+◌, ◌<◌, ◌≤◌, List, [], length, take, slice_index_or}
use Rattle.std.specs.List.{concat}
use Rattle.line_tree.specs.Breaks.{count_breaks}

-- the piece at an index
abbrev pub piece_of : List (List ℕ) → ℕ → List ℕ
piece_of pieces index = slice_index_or pieces index []

-- The piece at the index starts at the place `from`, after so many breaks.
pub record StartsAt (pieces : List (List ℕ)) (index from breaks : ℕ) : Type 0 where
  pub in_range : index < length pieces
  pub from_is : from ≡ length (concat (take index pieces))
  pub breaks_is : breaks ≡ count_breaks (concat (take index pieces))

-- The character at a place is one of this piece.
pub record HoldsPlace (pieces : List (List ℕ)) (place index from breaks : ℕ) : Type 0 where
  pub is : StartsAt pieces index from breaks
  pub starts : from ≤ place
  pub ends : place < from + length (piece_of pieces index)

-- The break after so many others is one of this piece.
pub record HoldsBreak (pieces : List (List ℕ)) (before index from breaks : ℕ) : Type 0 where
  pub is : StartsAt pieces index from breaks
  pub starts : breaks ≤ before
  pub ends : before < breaks + count_breaks (piece_of pieces index)
