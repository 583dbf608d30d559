-- The breaks of a text. For private clauses.
use Rattle.std.specs.Prelude.{◌≡◌, ℕ, ◌<◌, ◌^◌, List, [], ◌∷◌, length, take, count_by, slice_index}
use Rattle.line_tree.specs.Text.{line_feed}
use Rattle.line_tree.specs.Lines.{is_break}

abbrev pub count_breaks : List ℕ → ℕ
count_breaks cs = count_by is_break cs

-- The break after so many others stands at the place.
pub record IsBreakAt (cs : List ℕ) (before place : ℕ) : Type 0 where
  pub within : place < length cs
  pub there : slice_index cs place ≡ line_feed
  pub others : count_breaks (take place cs) ≡ before

-- What is kept beside characters: their number, which is less than 2 ^ 32, and that of their breaks.
pub record IsCounted (cs : List ℕ) (len breaks : ℕ) : Type 0 where
  pub len_is : len ≡ length cs
  pub breaks_is : breaks ≡ count_breaks cs
  pub fits : length cs < 2 ^ 32

abbrev pub HasNoBreak : List ℕ → Type 0
HasNoBreak cs = count_breaks cs ≡ 0

-- characters that are none or begin with a break
abbrev pub BeginsWithBreak : List ℕ → Type 0
BeginsWithBreak [] = Unit {0}
BeginsWithBreak (c ∷ cs) = c ≡ line_feed
