-- The refusals of events under their names in a reply. Out of memory is none.
use Rattle.std.specs.Prelude.{Option, Some, None}
use Rattle.collab.specs.declared.error.CollabError.{CollabError}
use Rattle.collab.specs.declared.error.CollabError.TheVariants as errors
use Rattle.script.specs.declared.refusal.Refusal.{Refusal}
use Rattle.script.specs.declared.refusal.Refusal.TheVariants.{BadRange, LengthMismatch, TooLong, Stale, Ahead}

-- why an event is refused
abbrev pub collab_refusal : CollabError → Option Refusal
collab_refusal (errors.BadRange index from to len) = Some (BadRange index from to len)
collab_refusal (errors.LengthMismatch want have) = Some (LengthMismatch want have)
collab_refusal (errors.TooLong len most) = Some (TooLong len most)
collab_refusal (errors.Stale version) = Some (Stale version)
collab_refusal (errors.Ahead from version) = Some (Ahead from version)
collab_refusal errors.NoMemory = None
