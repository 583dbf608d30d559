-- The lines of a text (Reference Manual: Text.lines, Text.line, Text.lineAt, Line).
use Rattle.std.specs.Prelude.{◌≡◌, ℕ, ◌+◌, ◌-◌, List, [], ◌∷◌, length, Some, slice_get, Bool, ◌==◌}
use Rattle.std.specs.List.{slice_split}
use Rattle.line_tree.specs.Text.{line_feed}
use Rattle.line_tree.specs.declared.line.Line.{Line}

abbrev pub is_break : ℕ → Bool
is_break c = c == line_feed

-- the characters of each line; a text without characters has one line without characters
abbrev pub line_texts : List ℕ → List (List ℕ)
line_texts text = slice_split is_break text

-- lines with their numbers and places, the first of which has this number and starts at this place
abbrev pub numbered : ℕ → ℕ → List (List ℕ) → List Line
numbered number from [] = []
numbered number from (line ∷ lines) =
    record { number = number; from = from; to = from + length line } ∷ numbered (number + 1) (from + length line + 1) lines

-- the lines of a text, numbered from 1
abbrev pub lines_of : List ℕ → List Line
lines_of text = numbered 1 0 (line_texts text)

-- the line is the one of its number in the text
abbrev pub IsLineOf : List ℕ → Line → Type 0
IsLineOf text line = slice_get (lines_of text) (line.number - 1) ≡ Some line
