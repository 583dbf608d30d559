-- How far a reader of lines has come, and what one call of it made of the bytes before.
use Rattle.std.specs.Prelude.{◌≡◌, ℕ, ◌+◌, ◌-◌, ◌<◌, ◌≤◌, ◌⊎◌, List, [], ◌∷◌, ◌++◌, Bool, true, false, length, take, drop, Option, Some, IfSome}
use Rattle.cm_outside.specs.Lines.{line_feed, max_line, HasNoBreak}
use Rattle.cm_outside.specs.declared.reading.Reading.{Reading}
use Rattle.cm_outside.specs.declared.reading.Reading.TheVariants.{Line, TooLong, End, Failed, Budget}

-- A reader's limit in bytes, how many bytes it took, whether the source gave the end of input, and the bytes that were
-- taken and belong to no line that was answered.
pub record Progress : Type 0 where
  pub limit : ℕ
  pub taken : ℕ
  pub ended : Bool
  pub rest : List ℕ

-- a measure of what is still to come: each line takes some of it
abbrev pub to_come : Progress → ℕ
to_come p = (p.limit + 1 - p.taken) + length p.rest

-- the bytes that stood ready, and those that were taken of the input since
abbrev pub pending : Progress → Progress → List ℕ → List ℕ
pending old new input = old.rest ++ take (new.taken - old.taken) input

-- what the source has left of the input
abbrev pub left_of : Progress → Progress → List ℕ → List ℕ
left_of old new input = drop (new.taken - old.taken) input

-- the line stood before an LF, and what follows is kept
pub record EndsAtBreak (line pending : List ℕ) (new : Progress) : Type 0 where
  pub bytes : pending ≡ line ++ line_feed ∷ new.rest
  pub goes_on : new.ended ≡ false

-- the line is all that stood before the end of input
pub record EndsAtEnd (line pending left : List ℕ) (new : Progress) : Type 0 where
  pub bytes : pending ≡ line
  pub some : 0 < length line
  pub no_rest : new.rest ≡ []
  pub no_left : left ≡ []
  pub ended : new.ended ≡ true

pub record IsNextLine (line : List ℕ) (old new : Progress) (input : List ℕ) : Type 0 where
  pub start : old.ended ≡ false
  pub one : HasNoBreak line
  pub place : EndsAtBreak line (pending old new input) new ⊎ EndsAtEnd line (pending old new input) (left_of old new input) new

-- the answer is right for a source that had this input left
abbrev pub Reads : Reading → Progress → Progress → List ℕ → Type 0
Reads (Line bytes) old new input = (length bytes.items ≤ max_line) × IsNextLine bytes.items old new input
Reads TooLong old new input = (line : List ℕ) × (max_line < length line) × IsNextLine line old new input
Reads End old new input = old.ended ≡ false → (old.rest ≡ []) × (input ≡ [])
Reads Failed old new input = HasNoBreak (pending old new input) × (old.ended ≡ false)
Reads Budget old new input = HasNoBreak (old.rest ++ take (old.limit - old.taken) input) × (old.ended ≡ false)

-- a line was answered, and less is to come
abbrev pub Advances : Reading → Progress → Progress → Type 0
Advances (Line bytes) old new = to_come new < to_come old
Advances TooLong old new = to_come new < to_come old
Advances _ old new = Unit {0}

-- no more than the limit was taken, or one byte more where that is the answer
abbrev pub KeepsLimit : Reading → Progress → Type 0
KeepsLimit Budget new = new.taken ≡ new.limit + 1
KeepsLimit _ new = new.taken ≤ new.limit

-- what the source has left follows from how many bytes were taken
pub record TakesOf (old new : Progress) (input : List ℕ) (now : Option (List ℕ)) : Type 0 where
  pub fits : new.taken - old.taken ≤ length input
  pub left : now ≡ Some (left_of old new input)

-- how many bytes a reader asks for at once, at most
abbrev pub read_room : ℕ
read_room = 8192

-- what stood ready has no break, nor has it with what was taken before the source was last read, which gave at most `read_room` bytes
pub record AskedLate {S : Type 0} (given asked : S → ℕ) (old : Progress) (source now : S) (left : Option (List ℕ)) : Type 0 where
  pub ready : HasNoBreak old.rest
  pub taken : IfSome left (λ input. HasNoBreak (old.rest ++ take (asked now - given source) input))
  pub within : given now ≤ asked now + read_room

-- The source stands as it was. Or, where the source was last read, no whole line was left; so each read of the call was made
-- where none was, since what was taken before an earlier read is a prefix.
abbrev pub ReadsLate : {S : Type 0} → (given asked : S → ℕ) → Progress → (source now : S) → (left : Option (List ℕ)) → Type 0
ReadsLate given asked old source now left = (now ≡ source) ⊎ AskedLate given asked old source now left
