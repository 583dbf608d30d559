-- Lines of bytes: each ends at LF or at the end of input, and a last part without bytes is no line.
use Rattle.std.specs.Prelude.{◌≢◌, ◌==◌, ℕ, List, [], ◌∷◌, if◌then◌else◌}

abbrev pub line_feed : ℕ
line_feed = 10

-- the greatest length of a line in bytes, without its LF
abbrev pub max_line : ℕ
max_line = 1048576

-- no byte is an LF
abbrev pub HasNoBreak : List ℕ → Type 0
HasNoBreak [] = Unit {0}
HasNoBreak (x ∷ xs) = (x ≢ line_feed) × HasNoBreak xs

-- a byte before the first line
abbrev pub onto_first : ℕ → List (List ℕ) → List (List ℕ)
onto_first x [] = (x ∷ []) ∷ []
onto_first x (line ∷ lines) = (x ∷ line) ∷ lines

-- the lines of an input that ends here
abbrev pub lines_of : List ℕ → List (List ℕ)
lines_of [] = []
lines_of (x ∷ xs) = if x == line_feed then [] ∷ lines_of xs else onto_first x (lines_of xs)

-- a byte before the first whole line
abbrev pub onto_whole : ℕ → List (List ℕ) → List (List ℕ)
onto_whole x [] = []
onto_whole x (line ∷ lines) = (x ∷ line) ∷ lines

-- the lines whose LF stands in these bytes
abbrev pub whole_lines : List ℕ → List (List ℕ)
whole_lines [] = []
whole_lines (x ∷ xs) = if x == line_feed then [] ∷ whole_lines xs else onto_whole x (whole_lines xs)
