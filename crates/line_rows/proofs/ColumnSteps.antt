-- One piece further on the way to a column.
use Rattle.std.proofs.Common.{◌≡◌, ℕ, ◌+◌, max, Bool, true, false, List, [], ◌∷◌, refl, if◌then◌else◌}
use Rattle.pieces.specs.Piece.{PieceView}
use Rattle.pieces.specs.Standing.{first_after}
use Rattle.pieces.specs.Widths.{is_before, width_of}
use Rattle.line_rows.specs.Column.{column_of}

pub column_step : (tab pos column width : ℕ) (p : PieceView) (left ps : List PieceView) (all : ℕ × ℕ) → left ≡ p ∷ ps → width ≡ width_of tab column p → is_before pos p ≡ true → column_of tab pos column left ≡ all → column_of tab pos (column + width) ps ≡ all
unfolding column_of
column_step tab pos column width p left ps all taken long before goes =
    let here = rw taken at goes in
    let later = rw before at here in
    rw long later

pub column_here : (tab pos column width wide : ℕ) (p : PieceView) (left ps : List PieceView) (all : ℕ × ℕ) → left ≡ p ∷ ps → width ≡ width_of tab column p → wide ≡ max width 1 → is_before pos p ≡ false → column_of tab pos column left ≡ all → (column, wide) ≡ all
unfolding column_of
column_here tab pos column width wide p left ps all taken long some after goes =
    let here = rw taken at goes in
    let there = rw after at here in
    rw (some, long) there

pub column_end : (tab pos column : ℕ) (left : List PieceView) (all : ℕ × ℕ) → left ≡ [] → column_of tab pos column left ≡ all → (column, 1) ≡ all
unfolding column_of
column_end tab pos column left all none goes = rw none at goes

-- the piece at a place alone tells the place's column
pub column_at : (tab pos column : ℕ) (ps : List PieceView) → column_of tab pos (first_after tab pos column ps).0 (first_after tab pos column ps).1 ≡ column_of tab pos column ps
unfolding column_of first_after
column_at tab pos column [] = refl
column_at tab pos column (p ∷ ps) = by (is_before pos p) refl (column_at tab pos (column + width_of tab column p) ps) where
  next : ℕ
  next = column + width_of tab column p

  found : Bool → ℕ × List PieceView
  found b = if b then first_after tab pos next ps else (column, p ∷ [])

  by : (b : Bool) → is_before pos p ≡ b → column_of tab pos (first_after tab pos next ps).0 (first_after tab pos next ps).1 ≡ column_of tab pos next ps → column_of tab pos (found b).0 (found b).1 ≡ (if b then column_of tab pos next ps else (column, max (width_of tab column p) 1))
  by true e more = more
  by false e more = rw e refl
