-- What one call for the next byte made of a reader.
use Rattle.std.specs.Prelude.{◌≡◌, ℕ, ◌+◌, ◌<◌, ◌≤◌, List, [], ◌∷◌, ◌++◌, length, drop, Option, Some}
use Rattle.cm_outside.specs.Progress.{Progress}
use Rattle.cm_outside.specs.declared.next_byte.NextByte.{NextByte}
use Rattle.cm_outside.specs.declared.next_byte.NextByte.TheVariants.{Byte, End, Failed, Budget}

-- how many bytes are taken and stand ready: one less where a byte was answered, one past the limit where that is the answer
abbrev pub TakesByte : NextByte → Progress → Progress → Type 0
TakesByte (Byte byte) old new = (new.taken ≤ new.limit) × (new.taken + length old.rest ≡ old.taken + length new.rest + 1)
TakesByte End old new = new.taken ≡ old.taken
TakesByte Failed old new = new.taken ≡ old.taken
TakesByte Budget old new = (old.taken ≡ old.limit) × (new.taken ≡ new.limit + 1)

-- the byte is the first of those that stood ready and those that the source had left, and the others are left now
pub record IsFirstByte (byte : ℕ) (old new : Progress) (input : List ℕ) (now : Option (List ℕ)) : Type 0 where
  pub left : List ℕ
  pub bytes : old.rest ++ input ≡ byte ∷ new.rest ++ left
  pub source : now ≡ Some left

-- the answer is right for a source that had this input left
abbrev pub TakesByteFrom : NextByte → Progress → Progress → List ℕ → Option (List ℕ) → Type 0
TakesByteFrom (Byte byte) old new input now = IsFirstByte byte old new input now
TakesByteFrom End old new input now = (old.rest ≡ []) × (input ≡ []) × (now ≡ Some input)
TakesByteFrom Failed old new input now = (old.rest ≡ []) × (now ≡ Some input)
TakesByteFrom Budget old new input now = (old.rest ≡ []) × (0 < length input) × (now ≡ Some (drop 1 input))
