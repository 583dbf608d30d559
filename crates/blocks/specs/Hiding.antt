-- What replacements hide, and the blocks that this leaves.
use Rattle.std.specs.Prelude.{◌≡◌, ℕ, ◌+◌, ◌≤◌, Bool, true, false, ◌&&◌, nat_le, nat_lt, List, [], ◌∷◌, if◌then◌else◌}
use Rattle.std.specs.List.{list_any}
use Rattle.range_set.specs.declared.ranged.Ranged.{Ranged}
use Rattle.decoration.specs.declared.deco.Deco.{Deco}
use Rattle.decoration.specs.declared.deco.Deco.TheVariants.{Replace}
use Rattle.line_tree.specs.declared.line.Line as lines
use Rattle.line_tree.specs.Lines.{lines_of, IsLineOf}

abbrev pub is_replacement : Deco → Bool
is_replacement (Replace r) = true
is_replacement d = false

abbrev pub is_between : (from to : ℕ) → ℕ → Bool
is_between from to p = nat_le from p && nat_lt p to

-- a replacement hides the characters of its range
abbrev pub hides : ℕ → Ranged Deco → Bool
hides p d = is_replacement d.value && is_between d.from d.to p

abbrev pub set_hides : ℕ → List (Ranged Deco) → Bool
set_hides p set = list_any (hides p) set

-- Hidden: the character at the place p is in the range of a replacement of some layer.
abbrev pub is_hidden : List (List (Ranged Deco)) → ℕ → Bool
is_hidden layers p = list_any (set_hides p) layers

-- a block with one line more at its end
abbrev pub longer : lines.Line → lines.Line → lines.Line
longer block line = record { number = block.number; from = block.from; to = line.to }

-- the block of a line, which comes after another block
abbrev pub next_block : lines.Line → lines.Line → lines.Line
next_block block line = record { number = block.number + 1; from = line.from; to = line.to }

-- The blocks of lines, the first of which begins in the block of the line before: a line is in the block of the line before it
-- exactly where the break between them is hidden.
unfoldable pub blocks_after : (lines.Line → Bool) → (block last : lines.Line) → List lines.Line → List lines.Line
blocks_after is_joined block last [] = block ∷ []
blocks_after is_joined block last (line ∷ lines) =
    if is_joined last then blocks_after is_joined (longer block line) line lines
    else block ∷ blocks_after is_joined (next_block block line) line lines

abbrev pub joined_lines : (lines.Line → Bool) → List lines.Line → List lines.Line
joined_lines is_joined [] = []
joined_lines is_joined (line ∷ lines) = blocks_after is_joined line line lines

-- whether the break at a line's end is hidden
abbrev pub hides_break : List (List (Ranged Deco)) → lines.Line → Bool
hides_break layers line = is_hidden layers line.to

-- Blocks: line n + 1 is in the block of line n exactly where a replacement of some layer covers the break between them. They
-- are numbered from 1, and each starts where its first line starts and ends where its last line ends.
abbrev pub blocks_of : List ℕ → List (List (Ranged Deco)) → List lines.Line
blocks_of text layers = joined_lines (hides_break layers) (lines_of text)

-- the line of this number is the one in which a place stands
pub record IsLineAt (text : List ℕ) (number place : ℕ) : Type 0 where
  pub line : lines.Line
  pub is : IsLineOf text line
  pub numbered : line.number ≡ number
  pub starts : line.from ≤ place
  pub ends : place ≤ line.to

-- what contracts see of the blocks of a text: the text, and its blocks in order
pub record BlocksView : Type 0 where
  pub text : List ℕ
  pub blocks : List lines.Line
