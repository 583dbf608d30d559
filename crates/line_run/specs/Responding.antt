-- What one answer of the line reader leads to in a run. Private clauses alone speak of it.
use Rattle.std.specs.Prelude.{◌≡◌, ℕ, ◌<◌, List, length, ⊤}
use Rattle.std.specs.declared.result.Result.{Result}
use Rattle.std.specs.declared.result.Result.TheVariants.{Err}
use Rattle.cm_outside.specs.declared.status.Status.{Status}
use Rattle.cm_outside.specs.declared.status.Status.TheVariants as statuses
use Rattle.cm_outside.specs.declared.reading.Reading.{Reading}
use Rattle.cm_outside.specs.declared.reading.Reading.TheVariants.{Line, TooLong, End, Failed, Budget}
use Rattle.cm_outside.specs.Answering.{Machine, Exchange}
use Rattle.cm_outside.specs.Lines.{max_line}
use Rattle.cm_outside.specs.Responding.{RespondsTo, IsSame, IsStop}

-- what was done with what was read
abbrev pub Responds : {P : Type 0} → Machine (List ℕ) P → Reading → Exchange P → Result ⊤ Status → Type 0
Responds m (Line bytes) exchange r = RespondsTo m bytes.items exchange r
Responds m TooLong exchange r = (line : List ℕ) → max_line < length line → RespondsTo m line exchange r
Responds m End exchange r = (r ≡ Err statuses.Ok) × IsSame exchange
Responds m Failed exchange r = (r ≡ Err statuses.ReadFault) × IsSame exchange
Responds m Budget exchange r = (r ≡ Err statuses.TooMuch) × IsSame exchange

-- how a run may end where this was read
abbrev pub EndsBy : Reading → Status → Type 0
EndsBy (Line bytes) status = IsStop status
EndsBy TooLong status = IsStop status
EndsBy End status = status ≡ statuses.Ok
EndsBy Failed status = status ≡ statuses.ReadFault
EndsBy Budget status = status ≡ statuses.TooMuch

-- a line was read, of whichever length
abbrev pub IsLine : Reading → Type 0
IsLine (Line bytes) = Unit {0}
IsLine TooLong = Unit {0}
IsLine _ = ⊥
