-- What a key leaves of a session, and what a file was read as. Private clauses alone speak of it.
use Rattle.std.specs.Prelude.{◌≡◌, ℕ, List, ⊤, ◌⊎◌, Option, Some, Result, Ok, Err, IfOk, IsErr, String, string_bytes}
use Rattle.std.specs.declared.alloc.AllocError.{AllocError}
use Rattle.std.specs.declared.alloc.Global.{Global}
use Rattle.cm_outside.specs.Files.{Files}
use Rattle.cm_outside.specs.declared.status.Status.{Status}
use Rattle.cm_outside.specs.declared.status.Status.TheVariants as statuses
use Rattle.cm_outside.specs.declared.store_fault.StoreFault.{StoreFault}
use Rattle.cm_outside.specs.declared.store_fault.StoreFault.TheVariants.{Failed, NoMemory}
use Rattle.file_text.specs.Files.{FileFault}
use Rattle.line_tree.specs.Text.{TextView}
use Rattle.session.specs.Frames.{frame_of}
use Rattle.session.specs.State.{Held, PlainSession, plain_session}

-- the frame of the session after it, which is this one; out of memory changes nothing
abbrev pub ShownAs : PlainSession → (old new : Held) → Result (String Global) AllocError → Type 0
ShownAs next old new (Ok text) = (string_bytes text ≡ frame_of next) × (plain_session new ≡ next)
ShownAs next old new (Err error) = new ≡ old

-- the files after a save; a fault of the store may have left them as before or as asked
abbrev pub SavedTo : {T : Type 0} → (next files : Files) → (now : Option Files) → Result T StoreFault → Type 0
SavedTo next files now (Ok done) = now ≡ Some next
SavedTo next files now (Err Failed) = (now ≡ Some files) ⊎ (now ≡ Some next)
SavedTo next files now (Err NoMemory) = now ≡ Some files

-- and the frame of the session
abbrev pub SavedAs : PlainSession → (next files : Files) → (now : Option Files) → Result (String Global) StoreFault → Type 0
SavedAs s next files now result = SavedTo next files now result × IfOk result (λ text. string_bytes text ≡ frame_of s)

-- a file was read as its text; `BadFile` comes only where its bytes are none
abbrev pub ReadAs : Result (List ℕ) FileFault → Result TextView Status → Type 0
ReadAs read (Ok text) = read ≡ Ok text.characters
ReadAs read (Err statuses.BadFile) = IsErr read
ReadAs read (Err _) = ⊤

-- and no file changed
abbrev pub ReadsFile : Result (List ℕ) FileFault → (files : Files) → (now : Option Files) → Result TextView Status → Type 0
ReadsFile read files now result = ReadAs read result × (now ≡ Some files)
