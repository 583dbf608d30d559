-- Windows (Reference Manual: EditorView.viewport; the rows and columns are those of a terminal).
use Rattle.std.specs.Prelude.{ℕ, ◌≤◌, nat_le, ◌&&◌, Bool, Result, Ok, Err, if◌then◌else◌}
use Rattle.viewport.specs.declared.size_error.SizeError.{SizeError}
use Rattle.viewport.specs.declared.size_error.SizeError.TheVariants.{BadRows, BadCols}

-- a window: the block that its first row shows, from 1, its first column, from 0, and its size
pub record Window : Type 0 where
  pub top : ℕ
  pub left : ℕ
  pub rows : ℕ
  pub cols : ℕ

-- a window has 1 to 500 rows and columns
pub record IsWindow (w : Window) : Type 0 where
  pub some_row : 1 ≤ w.rows
  pub some_col : 1 ≤ w.cols
  pub few_rows : w.rows ≤ 500
  pub few_cols : w.cols ≤ 500

abbrev pub is_size : ℕ → Bool
is_size n = nat_le 1 n && nat_le n 500

-- the window at the first block and column, or the first of rows and columns that is out of range
abbrev pub first_window : ℕ → ℕ → Result Window SizeError
first_window rows cols =
    if is_size rows then (if is_size cols then Ok (record { top = 1; left = 0; rows = rows; cols = cols }) else Err (BadCols cols))
    else Err (BadRows rows)
