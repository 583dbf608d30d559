-- The steps within one call of a reader of lines: cutting what stands ready, and reading more. Private clauses alone
-- speak of them.
use Rattle.std.specs.Prelude.{◌≡◌, ℕ, ◌+◌, ◌-◌, ◌<◌, ◌≤◌, List, [], ◌∷◌, ◌++◌, true, length, take, Vec}
use Rattle.std.specs.declared.alloc.Global.{Global}
use Rattle.cm_outside.specs.Lines.{line_feed, max_line, HasNoBreak}
use Rattle.cm_outside.specs.Progress.{Progress}
use Rattle.cm_outside.specs.declared.line_reader.Filled.{Filled}
use Rattle.cm_outside.specs.declared.line_reader.Filled.TheVariants.{More, Ended, Failing, Past}
use Rattle.cm_outside.specs.declared.reading.Reading.{Reading}
use Rattle.cm_outside.specs.declared.reading.Reading.TheVariants.{Line, TooLong}

-- the line, or that it is too long, where one byte more than the longest is kept
abbrev pub IsLineOrTooLong : Reading → Vec ℕ Global → Type 0
IsLineOrTooLong (Line bytes) kept = (length kept.items ≤ max_line) × (bytes ≡ kept)
IsLineOrTooLong TooLong kept = max_line < length kept.items
IsLineOrTooLong _ kept = ⊥

-- the same, but for what is ready
pub record SameCounts (old new : Progress) : Type 0 where
  pub limit : new.limit ≡ old.limit
  pub taken : new.taken ≡ old.taken
  pub ended : new.ended ≡ old.ended

-- up to a break, which is passed over, what stood ready went to the line, of which only a prefix is kept
pub record CutsLine (line new_line rest new_rest : List ℕ) : Type 0 where
  pub part : List ℕ
  pub one : HasNoBreak part
  pub bytes : rest ≡ part ++ line_feed ∷ new_rest
  pub kept : new_line ≡ take (max_line + 1) (line ++ part)

-- with no break in it, all that stood ready did
pub record TakesRest (line new_line rest new_rest : List ℕ) : Type 0 where
  pub one : HasNoBreak rest
  pub none : new_rest ≡ []
  pub kept : new_line ≡ take (max_line + 1) (line ++ rest)

-- what a read made of a reader with nothing ready
abbrev pub Fills : Filled → Progress → Progress → Type 0
Fills More old new = (old.taken < new.taken) × (new.taken ≤ old.limit) × (new.ended ≡ old.ended) × (length new.rest ≡ new.taken - old.taken)
Fills Ended old new = (new.taken ≡ old.taken) × (new.ended ≡ true) × (new.rest ≡ [])
Fills Failing old new = (new.taken ≡ old.taken) × (new.ended ≡ old.ended)
Fills Past old new = (old.taken ≡ old.limit) × (new.taken ≡ old.taken + 1) × (new.ended ≡ old.ended)

-- the same where the input is told
abbrev pub FillsFrom : Filled → Progress → Progress → List ℕ → Type 0
FillsFrom More old new input = new.rest ≡ take (new.taken - old.taken) input
FillsFrom Ended old new input = input ≡ []
FillsFrom Failing old new input = Unit {0}
FillsFrom Past old new input = Unit {0}
