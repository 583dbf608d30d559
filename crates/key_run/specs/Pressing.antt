-- What one key leads to in a run. Private clauses alone speak of it.
use Rattle.std.specs.Prelude.{◌≡◌, ℤ, Bool, true, false, ⊤}
use Rattle.std.specs.declared.result.Result.{Result}
use Rattle.std.specs.declared.result.Result.TheVariants.{Err}
use Rattle.cm_outside.specs.declared.status.Status.{Status}
use Rattle.cm_outside.specs.declared.status.Status.TheVariants.{Ok}
use Rattle.cm_outside.specs.Answering.{Exchange}
use Rattle.cm_outside.specs.Responding.{RespondsTo, IsSame, IsStop}
use Rattle.key_run.specs.Typing.{KeyMachine, shown, pressed, is_quit}
use Rattle.term_keys.specs.declared.key.Key.{Key}

-- Quit ends the run and is not answered, another key is
abbrev pub PressedOr : {P : Type 0} → Bool → KeyMachine P → Key → ℤ → Exchange P → Result ⊤ Status → Type 0
PressedOr true m key time exchange r = (r ≡ Err Ok) × IsSame exchange
PressedOr false m key time exchange r = RespondsTo (shown m) (pressed key time) exchange r

abbrev pub Presses : {P : Type 0} → KeyMachine P → Key → ℤ → Exchange P → Result ⊤ Status → Type 0
Presses m key time exchange r = PressedOr (is_quit key) m key time exchange r

-- how a run may end at a key
abbrev pub EndsBy : Bool → Status → Type 0
EndsBy true status = status ≡ Ok
EndsBy false status = IsStop status
