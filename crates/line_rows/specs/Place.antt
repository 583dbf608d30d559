-- The column of a place of a line of which nothing but its characters is shown.
use Rattle.std.specs.Prelude.{ℕ, ◌+◌, max, nat_lt, Bool, true, false, List, [], ◌∷◌, length, if◌then◌else◌}
use Rattle.cells.specs.Layout.{cells_of}

-- Place: the sum of the widths of the clusters that start before the place `pos`, the first of which stands at the place `at` and
-- begins in `column`; and the width of the cluster after them, which is at least 1, and 1 where there is none.
unfoldable pub place_of : (tab pos : ℕ) → (at column : ℕ) → List (List ℕ) → ℕ × ℕ
place_of tab pos at column [] = (column, 1)
place_of tab pos at column (g ∷ gs) =
    if nat_lt at pos then place_of tab pos (at + length g) (column + length (cells_of tab column g)) gs else (column, max (length (cells_of tab column g)) 1)

-- for private clauses: whether a cluster stands after the one of which the width is given
unfoldable pub is_told : (pos at : ℕ) → List (List ℕ) → Bool
is_told pos at [] = false
is_told pos at (g ∷ []) = false
is_told pos at (g ∷ h ∷ gs) = if nat_lt at pos then is_told pos (at + length g) (h ∷ gs) else true
