-- Where lines start and end. For private clauses.
use Rattle.std.specs.Prelude.{◌≡◌, ℕ, ◌-◌, ◌<◌, ◌≤◌, List, length, take, slice_index}
use Rattle.line_tree.specs.Text.{line_feed}
use Rattle.line_tree.specs.Breaks.{count_breaks}

-- The line after so many breaks starts at the place.
pub record StartsLine (cs : List ℕ) (breaks place : ℕ) : Type 0 where
  pub within : place ≤ length cs
  pub others : count_breaks (take place cs) ≡ breaks
  pub begins : 0 < place → slice_index cs (place - 1) ≡ line_feed

-- The line after so many breaks ends at the place.
pub record EndsLine (cs : List ℕ) (breaks place : ℕ) : Type 0 where
  pub within : place ≤ length cs
  pub others : count_breaks (take place cs) ≡ breaks
  pub ends : place < length cs → slice_index cs place ≡ line_feed
