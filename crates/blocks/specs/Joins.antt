-- The blocks of several lines, as a list of the numbers of their lines.
use Rattle.std.specs.Prelude.{◌≡◌, ℕ, ◌+◌, ◌<◌, ◌≤◌, Bool, ◌||◌, nat_le, nat_lt, List, [], ◌∷◌}
use Rattle.std.specs.List.{list_any}
use Rattle.line_tree.specs.declared.line.Line as lines
use Rattle.blocks.specs.declared.line_range.LineRange.{LineRange}
use Rattle.blocks.specs.declared.joins.Join.{Join}
use Rattle.line_tree.specs.Lines.{lines_of, IsLineOf}
use Rattle.blocks.specs.Hiding.{is_between, joined_lines}

-- whether the break after the line of a number is between lines of the range
abbrev pub covers : ℕ → LineRange → Bool
covers n r = is_between r.first r.last n

abbrev pub holds : ℕ → Join → Bool
holds n j = is_between j.first j.last n

abbrev pub is_joined : List Join → lines.Line → Bool
is_joined joins line = list_any (holds line.number) joins

-- a range that isn't one of at least two of so many lines
abbrev pub is_wrong : ℕ → LineRange → Bool
is_wrong lines r = nat_lt r.first 1 || nat_le r.last r.first || nat_lt lines r.last

-- ranges of at least two of so many lines, in the order of their first lines, of which none is before a number
abbrev pub AreRanges : ℕ → ℕ → List LineRange → Type 0
AreRanges lines n [] = Unit {0}
AreRanges lines n (r ∷ rs) = (n ≤ r.first) × (r.first < r.last) × (r.last ≤ lines) × AreRanges lines r.first rs

-- one block of several of so many lines, after the block `number` that ends with the line `last`
pub record Follows (lines number last : ℕ) (j : Join) : Type 0 where
  pub later : last < j.first
  pub numbered : j.number + last ≡ number + j.first
  pub some : j.first < j.last
  pub within : j.last ≤ lines

-- blocks of several lines in order, where all blocks between them have one line
abbrev pub AreJoins : ℕ → ℕ → ℕ → List Join → Type 0
AreJoins lines number last [] = Unit {0}
AreJoins lines number last (j ∷ js) = Follows lines number last j × AreJoins lines j.number j.last js

-- what stands before the first block: no line
abbrev pub none : Join
none = record { number = 0; first = 0; last = 0 }

-- the blocks of a text where these are those of several lines
abbrev pub joined_blocks : List ℕ → List Join → List lines.Line
joined_blocks text joins = joined_lines (is_joined joins) (lines_of text)

-- the lines of two numbers, of which the first starts and the last ends at two places
pub record AreEnds (text : List ℕ) (first last from to : ℕ) : Type 0 where
  pub start : lines.Line
  pub end : lines.Line
  pub is_start : IsLineOf text start
  pub is_end : IsLineOf text end
  pub first_is : start.number ≡ first
  pub last_is : end.number ≡ last
  pub from_is : start.from ≡ from
  pub to_is : end.to ≡ to
