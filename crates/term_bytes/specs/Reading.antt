-- Reading a frame back: what a terminal makes of characters (ECMA-48: cursor position, erase in line, select graphic rendition).
use Rattle.std.specs.Prelude.{ℕ, ◌+◌, ◌-◌, ◌*◌, max, ◌==◌, ◌&&◌, Bool, false, true, List, [], ◌∷◌, ◌++◌, ◌≡◌, map, slice_get, slice_index, Option, if◌then◌else◌}
use Rattle.std.specs.Int.{is_in_range}
use Rattle.std.specs.List.{All, list_any}
use Rattle.std.specs.Global.{Vec}
use Rattle.cells.specs.Layout.{is_control}
use Rattle.line_rows.specs.Row.{row_of}
use Rattle.line_rows.specs.Run.{RunView, runs_of}
use Rattle.pieces.specs.Piece.{PiecesView}
use Rattle.pieces.specs.Styles.{plain}
use Rattle.decoration.specs.declared.style.Style.{Style}
use Rattle.decoration.specs.declared.color.Color.{Color}
use Rattle.decoration.specs.declared.color.Color.TheVariants.{Black, Red, Green, Yellow, Blue, Magenta, Cyan, White}

-- a character in its style
pub record Drawn : Type 0 where
  pub character : ℕ
  pub style : Style

-- a line that was drawn: from a place on these characters, and nothing after them
pub record Line : Type 0 where
  pub row : ℕ
  pub column : ℕ
  pub content : List Drawn

-- a terminal: where the cursor was put last, the style of what comes, the characters since, and the lines that were ended
pub record Terminal : Type 0 where
  pub row : ℕ
  pub column : ℕ
  pub style : Style
  pub content : List Drawn
  pub lines : List Line

-- a terminal in text, after ESC, or after ESC [ and some numbers, of which the last is being read
pub data Reading : Type 0 where
  at_text : Terminal → Reading
  after_escape : Terminal → Reading
  in_sequence : List ℕ → ℕ → Terminal → Reading

-- the colour of a number
abbrev pub color_of : ℕ → Option Color
color_of n = slice_get (Black ∷ Red ∷ Green ∷ Yellow ∷ Blue ∷ Magenta ∷ Cyan ∷ White ∷ []) n

-- a style after a number of ESC [ .. m: 0 no style, 1 bold, 4 underline, 7 reverse, 30 to 37 foreground, 40 to 47 background
abbrev pub coded : Style → ℕ → Style
coded s n =
    if n == 0 then plain
    else if n == 1 then record s { bold = true }
    else if n == 4 then record s { underline = true }
    else if n == 7 then record s { reverse = true }
    else if is_in_range 30 37 n then record s { fg = color_of (n - 30) }
    else if is_in_range 40 47 n then record s { bg = color_of (n - 40) }
    else s

abbrev pub all_coded : Style → List ℕ → Style
all_coded s [] = s
all_coded s (n ∷ ns) = all_coded (coded s n) ns

-- ESC [ row ; column H, both from 1; where a number is missing or 0, it is 1
abbrev pub moved : Terminal → ℕ → ℕ → Terminal
moved t row column = record t { row = max 1 row; column = max 1 column; content = [] }

-- ESC [ K ends the line: nothing stands after what was drawn
abbrev pub ended : Terminal → Terminal
ended t = record t { lines = t.lines ++ record { row = t.row; column = t.column; content = t.content } ∷ [] }

-- the end of a sequence: H, m or K after its numbers; any other one changes nothing
abbrev pub performed : Terminal → List ℕ → ℕ → Terminal
performed t numbers c =
    if c == 72 then moved t (slice_index numbers 0) (slice_index numbers 1)
    else if c == 109 then record t { style = all_coded t.style numbers }
    else if c == 75 && slice_index numbers 0 == 0 then ended t
    else t

-- a character of a text is drawn in the style
abbrev pub put : Terminal → ℕ → Terminal
put t c = record t { content = t.content ++ record { character = c; style = t.style } ∷ [] }

-- One character further. Control characters but ESC are passed over.
abbrev pub step : Reading → ℕ → Reading
step (at_text t) c = if is_control c then if c == 0x1B then after_escape t else at_text t else at_text (put t c)
step (after_escape t) c = if c == 0x5B then in_sequence [] 0 t else at_text t
step (in_sequence numbers n t) c =
    if is_in_range 48 57 c then in_sequence numbers (n * 10 + (c - 48)) t
    else if c == 59 then in_sequence (numbers ++ n ∷ []) 0 t
    else at_text (performed t (numbers ++ n ∷ []) c)

abbrev pub read : Reading → List ℕ → Reading
read reading [] = reading
read reading (c ∷ cs) = read (step reading c) cs

-- characters, each in the style
abbrev pub drawn : Style → List ℕ → List Drawn
drawn style text = map (λ c. record { character = c; style = style }) text

-- the characters of runs, each in its run's style
abbrev pub drawn_runs : List RunView → List Drawn
drawn_runs [] = []
drawn_runs (run ∷ runs) = drawn run.style run.text ++ drawn_runs runs

-- the lines of rows, from a row's number on, each from the first column on
abbrev pub lines_from : ℕ → List (Vec RunView) → List Line
lines_from number [] = []
lines_from number (runs ∷ rows) = record { row = number; column = 1; content = drawn_runs runs.items } ∷ lines_from (number + 1) rows

-- whether a run of the rows has a control character
abbrev pub run_has_control : RunView → Bool
run_has_control run = list_any is_control run.text

abbrev pub row_has_control : Vec RunView → Bool
row_has_control runs = list_any run_has_control runs.items

abbrev pub has_control : List (Vec RunView) → Bool
has_control rows = list_any row_has_control rows

-- the runs of a laid row
abbrev pub IsLaid : List RunView → Type 0
IsLaid runs = (tab cols left : ℕ) × (p : PiecesView) × (runs ≡ runs_of (row_of tab cols left p))

-- rows that are each the runs of a laid row
abbrev pub AreLaid : List (Vec RunView) → Type 0
AreLaid rows = All (λ runs. IsLaid runs.items) rows

-- a terminal after a frame: its lines are the rows, from the first row of the terminal on, each character in its run's style;
-- the cursor stands where it was to be put, and the style is none
abbrev pub after_frame : Terminal → List (Vec RunView) → ℕ → ℕ → Terminal
after_frame t rows cursor_row cursor_column = record {
  row = cursor_row + 1;
  column = cursor_column + 1;
  style = plain;
  content = [];
  lines = t.lines ++ lines_from 1 rows;
}

-- Read back: where no run has a control character, a terminal without style that reads the characters has the rows after it.
abbrev pub ReadsBack : List (Vec RunView) → ℕ → ℕ → List ℕ → Type 0
ReadsBack rows cursor_row cursor_column characters =
    (t : Terminal) → t.style ≡ plain → has_control rows ≡ false → read (at_text t) characters ≡ at_text (after_frame t rows cursor_row cursor_column)
