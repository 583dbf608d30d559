-- Where a cursor goes from a place of a text (manual: cursorCharBackward, cursorCharForward, cursorLineUp, cursorLineDown and others).
use Rattle.std.specs.Prelude.{ℕ, zero, ◌+◌, ◌-◌, min, Bool, cond, ◌&&◌, leb, ltb, List, length, slice_get, find, Option, None}
use Rattle.std.specs.Option.{option_map_or, unwrap_or}
use Rattle.line_tree.specs.Lines.{lines_of}
use Rattle.line_tree.specs.declared.line.Line.{Line}
use Rattle.term_keys.specs.declared.key.Move.{Move}
use Rattle.term_keys.specs.declared.key.Move.TheVariants as moves
use Rattle.cursor_moves.specs.Stops.{last_stop, next_stop}

-- a line without characters at the start of a text
abbrev pub no_line : Line
no_line = record { number = 1; from = 0; to = 0 }

-- a place stands in a line from its start to its end, both included
abbrev pub stands_in : (place : ℕ) → Line → Bool
stands_in place line = leb line.from place && leb place line.to

-- the line in which a place of a text stands
abbrev pub line_of : List ℕ → (place : ℕ) → Line
line_of text place = unwrap_or (find (stands_in place) (lines_of text)) no_line

-- the line of a number, if there is one; numbers count from 1
abbrev pub numbered_line : List ℕ → (number : ℕ) → Option Line
numbered_line text zero = None
numbered_line text number = slice_get (lines_of text) (number - 1)

-- Before: the last stop of its line before a place, or, where it starts its line, the place before the break. The first place
-- stays.
abbrev pub before_in : List ℕ → Line → (place : ℕ) → ℕ
before_in text line place = cond (ltb line.from place) (last_stop text line (place - 1)) (place - 1)

abbrev pub before : List ℕ → (place : ℕ) → ℕ
before text place = before_in text (line_of text place) place

-- After: the next stop of its line after a place, or, where it ends its line, the place after the break. The last place stays.
abbrev pub after_in : List ℕ → Line → (place : ℕ) → ℕ
after_in text line place = cond (ltb place line.to) (next_stop text line place) (min (place + 1) (length text))

abbrev pub after : List ℕ → (place : ℕ) → ℕ
after text place = after_in text (line_of text place) place

-- so many characters from the start of a line, at most its end, and then back to a stop
abbrev pub at_column : List ℕ → (column : ℕ) → Line → ℕ
at_column text column line = last_stop text line (min (line.from + column) line.to)

-- Up: to the same count of characters in the line before, or to the start of the text where there is none.
abbrev pub up_from : List ℕ → Line → (place : ℕ) → ℕ
up_from text line place = option_map_or (at_column text (place - line.from)) (numbered_line text (line.number - 1)) 0

abbrev pub up : List ℕ → (place : ℕ) → ℕ
up text place = up_from text (line_of text place) place

-- Down: to the same count of characters in the line after, or to the end of the text where there is none.
abbrev pub down_from : List ℕ → Line → (place : ℕ) → ℕ
down_from text line place = option_map_or (at_column text (place - line.from)) (numbered_line text (line.number + 1)) (length text)

abbrev pub down : List ℕ → (place : ℕ) → ℕ
down text place = down_from text (line_of text place) place

-- Moved: where each move goes from a place.
abbrev pub moved : List ℕ → Move → (place : ℕ) → ℕ
moved text moves.Left place = before text place
moved text moves.Right place = after text place
moved text moves.Up place = up text place
moved text moves.Down place = down text place
moved text moves.LineStart place = (line_of text place).from
moved text moves.LineEnd place = (line_of text place).to
moved text moves.DocStart place = 0
moved text moves.DocEnd place = length text
