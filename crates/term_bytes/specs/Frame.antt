-- The bytes that draw rows of runs (ECMA-48: cursor position, erase in line, select graphic rendition).
use Rattle.std.specs.Prelude.{ℕ, ◌+◌, Bool, List, [], ◌∷◌, ◌++◌, codes, drop, encode_utf8_all, Option, Some, None, if◌then◌else◌}
use Rattle.std.specs.Fmt.{decimal}
use Rattle.line_rows.specs.Run.{RunView}
use Rattle.pieces.specs.Styles.{is_plain, same_style, plain}
use Rattle.decoration.specs.declared.style.Style.{Style}
use Rattle.decoration.specs.declared.color.Color.{Color}
use Rattle.decoration.specs.Colors.{number_of}
use Rattle.std.specs.Global.{Vec}

-- ESC and [
abbrev pub start : List ℕ
start = 0x1B ∷ 0x5B ∷ []

-- ESC [ row ; column H
abbrev pub place : ℕ → ℕ → List ℕ
place row column = start ++ decimal row ++ codes ";" ++ decimal column ++ codes "H"

abbrev pub flag_code : Bool → List ℕ → List ℕ
flag_code wanted code = if wanted then code else []

abbrev pub color_code : List ℕ → Option Color → List ℕ
color_code code None = []
color_code code (Some color) = code ++ decimal (number_of color)

-- bold, underline, reverse, foreground and background
abbrev pub style_codes : Style → List ℕ
style_codes s =
    flag_code s.bold (codes ";1") ++ flag_code s.underline (codes ";4") ++ flag_code s.reverse (codes ";7")
    ++ color_code (codes ";3") s.fg ++ color_code (codes ";4") s.bg

-- the same codes without the semicolon before the first; none where there is no style
abbrev pub separated_codes : Style → List ℕ
separated_codes s = drop 1 (style_codes s)

-- ESC [ 0, the codes of the style, and m
abbrev pub style_bytes : Style → List ℕ
style_bytes s = start ++ codes "0" ++ style_codes s ++ codes "m"

-- a style after the style `before`
abbrev pub change_bytes : Style → Style → List ℕ
change_bytes before style = if same_style style before then [] else style_bytes style

-- a run after one of the style `before`: the style where it differs, and the text
abbrev pub run_bytes : Style → RunView → List ℕ
run_bytes before run = change_bytes before run.style ++ encode_utf8_all run.text

-- runs after one of the style `before`, and ESC [ 0 m where the last one has a style
abbrev pub runs_from : Style → List RunView → List ℕ
runs_from before [] = if is_plain before then [] else start ++ codes "0m"
runs_from before (run ∷ runs) = run_bytes before run ++ runs_from run.style runs

-- a row: its runs, and the rest of the line erased
abbrev pub row : List RunView → List ℕ
row runs = runs_from plain runs ++ start ++ codes "K"

-- rows, each from its own place on
abbrev pub rows_from : ℕ → List (Vec RunView) → List ℕ
rows_from number [] = []
rows_from number (runs ∷ rows) = place number 1 ++ row runs.items ++ rows_from (number + 1) rows

-- the rows from the top on, and the cursor, whose row and column count from 0
abbrev pub frame : List (Vec RunView) → ℕ → ℕ → List ℕ
frame rows cursor_row cursor_column = start ++ codes "H" ++ rows_from 1 rows ++ place (cursor_row + 1) (cursor_column + 1)
