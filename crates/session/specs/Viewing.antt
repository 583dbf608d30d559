-- The commands of the window.
use Rattle.std.specs.Prelude.{length, map, Result, Ok, Err}
use Rattle.line_tree.specs.Lines.{lines_of}
use Rattle.replies.specs.declared.answer.Answer.{Answer}
use Rattle.replies.specs.declared.answer.Answer.TheVariants.{Nothing, Screen, Summary}
use Rattle.replies.specs.declared.shown_screen.ShownCursor.{ShownCursor}
use Rattle.replies.specs.declared.shown_screen.ShownScreen.{ShownScreen}
use Rattle.line_rows.specs.declared.cursor.Cursor.{Cursor}
use Rattle.requests.specs.declared.view_request.ViewRequest.{ViewRequest}
use Rattle.screen.specs.Head.{cursor_in}
use Rattle.screen.specs.Screen.{ViewView, rendered, shown_count}
use Rattle.term_bytes.specs.Shown.{shown_row}
use Rattle.script.specs.declared.refusal.Refusal.{Refusal}
use Rattle.script.specs.declared.refusal.Refusal.TheVariants as refusals
use Rattle.script.specs.declared.window_refusal.WindowRefusal.{WindowRefusal}
use Rattle.script.specs.declared.window_refusal.WindowRefusal.TheVariants.{BadRows, BadCols}
use Rattle.script.specs.Reading.{◌>>=◌}
use Rattle.viewport.specs.declared.size_error.SizeError.{SizeError}
use Rattle.viewport.specs.declared.size_error.SizeError.TheVariants as sizes
use Rattle.viewport.specs.Window.{Window, first_window}
use Rattle.session.specs.Outcomes.{Done, shown_in}
use Rattle.session.specs.State.{PlainSession}
use Rattle.session.specs.Update.{started}
use Rattle.session.specs.Views.{view_of}

abbrev pub size_refusal : SizeError → WindowRefusal
size_refusal (sizes.BadRows n) = BadRows n
size_refusal (sizes.BadCols n) = BadCols n

abbrev pub window_or : Result Window SizeError → Result Window Refusal
window_or (Ok window) = Ok window
window_or (Err error) = Err (refusals.Window (size_refusal error))

-- View: a window of this size, moved to show the main range's head
abbrev pub view : PlainSession → ViewRequest → Result Done Refusal
view s r = do
  state ← started s.state
  window ← window_or (first_window r.rows r.cols)
  Ok (record { answer = Nothing; session = record s { window = shown_in state window } })

abbrev pub shown_cursor : Cursor → ShownCursor
shown_cursor c = record { row = c.row; column = c.column }

-- what a view shows: the rows of its window, and the cursor
abbrev pub shown_screen_of : ViewView → ShownScreen
shown_screen_of v = record { cursor = shown_cursor (cursor_in v); rows = map shown_row (rendered v) }

-- Screen: what the window shows
abbrev pub screen : PlainSession → Result Answer Refusal
screen s = started s.state >>= λ state. Ok (Screen (shown_screen_of (view_of state s.window)))

-- Summary: the counts of the session
abbrev pub summary : PlainSession → Result Answer Refusal
summary s = do
  state ← started s.state
  Ok (Summary (record {
    length = length state.scene.document;
    lines = length (lines_of state.scene.document);
    rows = shown_count (view_of state s.window);
    transactions = s.count;
  }))
