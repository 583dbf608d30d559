-- Frames: the bytes that show a session's window in a terminal.
use Rattle.std.specs.Prelude.{ℕ, ◌+◌, List, [], ◌∷◌, ◌++◌, codes, map, option_map}
use Rattle.std.specs.Option.{unwrap_or}
use Rattle.std.specs.Global.{Vec}
use Rattle.line_rows.specs.Run.{RunView, runs_of}
use Rattle.line_rows.specs.declared.cursor.Cursor.{Cursor}
use Rattle.screen.specs.Head.{cursor_in}
use Rattle.screen.specs.Screen.{ViewView, rendered}
use Rattle.term_bytes.specs.Frame.{place, row, start}
use Rattle.session.specs.State.{PlainSession}
use Rattle.session.specs.Views.{view_of}

abbrev pub items_of : {X : Type 0} → Vec X → List X
items_of v = v.items

-- rows of runs, each from the first column of its own row on, of which the first has this number
abbrev pub rows_from : ℕ → List (List RunView) → List ℕ
rows_from number [] = []
rows_from number (runs ∷ rows) = place number 1 ++ row runs ++ rows_from (number + 1) rows

-- the bytes of rows of runs, from the top of the terminal on, and of the cursor, whose row and column count from 0
abbrev pub bytes_of : List (List RunView) → Cursor → List ℕ
bytes_of rows cursor = start ++ codes "H" ++ rows_from 1 rows ++ place (cursor.row + 1) (cursor.column + 1)

-- what a view shows, as bytes: the rows of its window rendered whole, and the cursor
abbrev pub frame_in : ViewView → List ℕ
frame_in v = bytes_of (map runs_of (rendered v)) (cursor_in v)

-- Frame: what a session's window shows of its state; nothing before a state was started
abbrev pub frame_of : PlainSession → List ℕ
frame_of s = unwrap_or (option_map (λ state. frame_in (view_of state s.window)) s.state) []
