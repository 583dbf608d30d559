-- Why local changes are refused, among the other refusals.
use Rattle.change_set.specs.declared.error.ChangesError.{ChangesError}
use Rattle.change_set.specs.declared.error.ChangesError.TheVariants as changes
use Rattle.collab.specs.declared.error.CollabError.{CollabError}
use Rattle.collab.specs.declared.error.CollabError.TheVariants.{BadRange, LengthMismatch, TooLong, NoMemory}

-- a refusal of changes under its own name
abbrev pub of_changes_error : ChangesError → CollabError
of_changes_error (changes.BadRange index from to len) = BadRange index from to len
of_changes_error (changes.LengthMismatch want have) = LengthMismatch want have
of_changes_error (changes.TooLong len max) = TooLong len max
of_changes_error changes.NoMemory = NoMemory
