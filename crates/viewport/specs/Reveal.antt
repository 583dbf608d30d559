-- Reveal: where a window is moved to show a block and some columns (Reference Manual: EditorView.scrollIntoView, nearest).
use Rattle.std.specs.Prelude.{◌≡◌, ℕ, ◌+◌, ◌-◌, ◌<◌, ◌≤◌, nat_lt, if◌then◌else◌}
use Rattle.std.specs.Int.{abs_diff}
use Rattle.viewport.specs.Window.{Window}

-- the window shows this block and the columns from one on, so many
pub record Shows (w : Window) (block col width : ℕ) : Type 0 where
  pub not_above : w.top ≤ block
  pub not_under : block < w.top + w.rows
  pub not_before : w.left ≤ col
  pub not_after : col + width ≤ w.left + w.cols

-- Nearest: of all windows of the old one's size that show the block and the columns, the new one is the one whose top and
-- left are nearest to the old ones.
pub record IsNearest (old new : Window) (block col width : ℕ) : Type 0 where
  pub same_rows : new.rows ≡ old.rows
  pub same_cols : new.cols ≡ old.cols
  pub shows : Shows new block col width
  pub nearest : (w : Window) → w.rows ≡ old.rows → w.cols ≡ old.cols → Shows w block col width
      → (abs_diff old.top new.top ≤ abs_diff old.top w.top) × (abs_diff old.left new.left ≤ abs_diff old.left w.left)

-- Revealed: the same by arithmetic. A start moves back to what stands before it; it moves on where what is wanted ends after
-- the window's end, until that is the last that is shown; else it stays.
abbrev pub moved : (start size at width : ℕ) → ℕ
moved start size at width =
    if nat_lt at start then at else (if nat_lt (start + size) (at + width) then at + width - size else start)

abbrev pub revealed : Window → (block col width : ℕ) → Window
revealed w block col width = record w { top = moved w.top w.rows block 1; left = moved w.left w.cols col width }
