-- Why there is no state, as a refusal of a line, with ids written as names.
use Rattle.std.specs.Prelude.{◌≡◌, ⊤, Option, None, Some}
use Rattle.configuration.specs.declared.config_error.ConfigError.TheVariants as configs
use Rattle.names.specs.Names.{NameList}
use Rattle.names.specs.ConfigRefusals.{config_refusal}
use Rattle.script.specs.declared.refusal.LineError.{LineError}
use Rattle.script.specs.declared.refusal.LineError.TheVariants as lines
use Rattle.script.specs.declared.refusal.Refusal.{Refusal}
use Rattle.script.specs.declared.refusal.Refusal.TheVariants.{BadRange, LengthMismatch, TooLong, NoRanges, BadMain, SelectionOutside, UnknownEffect, UnknownCompartment}
use Rattle.state.specs.declared.state_error.StateError.{StateError}
use Rattle.state.specs.declared.state_error.StateError.TheVariants as errors

-- the refusal of a state; out of memory is none
abbrev pub state_refusal : NameList → StateError → Option Refusal
state_refusal names (errors.BadRange index from to len) = Some (BadRange index from to len)
state_refusal names (errors.LengthMismatch want have) = Some (LengthMismatch want have)
state_refusal names (errors.TooLong len max) = Some (TooLong len max)
state_refusal names errors.NoRanges = Some NoRanges
state_refusal names (errors.BadMain main count) = Some (BadMain main count)
state_refusal names (errors.SelectionOutside pos len) = Some (SelectionOutside pos len)
state_refusal names (errors.UnknownEffect id) = Some (UnknownEffect id)
state_refusal names (errors.UnknownCompartment id) = Some (UnknownCompartment id)
state_refusal names (errors.UnknownExt id) = config_refusal names (configs.UnknownExt id)
state_refusal names (errors.DuplicateCompartment compartment first second) = config_refusal names (configs.DuplicateCompartment compartment first second)
state_refusal names (errors.CompartmentLoop path) = config_refusal names (configs.CompartmentLoop path)
state_refusal names (errors.Cycle members) = config_refusal names (configs.Cycle members)
state_refusal names errors.NoMemory = None

-- an error of a line is why there is no state, or out of memory
abbrev pub Refuses : NameList → StateError → LineError → Type 0
Refuses names cause lines.NoMemory = ⊤
Refuses names cause (lines.Refused r) = state_refusal names cause ≡ Some r
