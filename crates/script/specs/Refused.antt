-- The refusals of the crates below under their names in a reply. Out of memory is none.
use Rattle.std.specs.Prelude.{Option, Some, None, Result, Ok, Err}
use Rattle.change_set.specs.declared.error.ChangesError.{ChangesError}
use Rattle.change_set.specs.declared.error.ChangesError.TheVariants as changes
use Rattle.selection.specs.declared.error.SelectionError.{SelectionError}
use Rattle.selection.specs.declared.error.SelectionError.TheVariants as selections
use Rattle.transaction.specs.declared.error.TransactionError.{TransactionError}
use Rattle.transaction.specs.declared.error.TransactionError.TheVariants as specs
use Rattle.script.specs.declared.refusal.Refusal.{Refusal}
use Rattle.script.specs.declared.refusal.Refusal.TheVariants.{BadRange, LengthMismatch, TooLong, NoRanges, BadMain, SelectionOutside, UnknownEffect, UnknownCompartment}
use Rattle.script.specs.declared.refusal.LineError.{LineError}
use Rattle.script.specs.declared.refusal.LineError.TheVariants.{NoMemory, Refused}

-- a refusal of a list of changes
abbrev pub changes_refusal : ChangesError → Option Refusal
changes_refusal (changes.BadRange index from to len) = Some (BadRange index from to len)
changes_refusal (changes.LengthMismatch want have) = Some (LengthMismatch want have)
changes_refusal (changes.TooLong len most) = Some (TooLong len most)
changes_refusal changes.NoMemory = None

-- a refusal of ranges that are to be selected
abbrev pub selection_refusal : SelectionError → Option Refusal
selection_refusal selections.NoRanges = Some NoRanges
selection_refusal (selections.BadMain main count) = Some (BadMain main count)
selection_refusal selections.NoMemory = None

-- a refusal of specs
abbrev pub specs_refusal : TransactionError → Option Refusal
specs_refusal (specs.BadRange index from to len) = Some (BadRange index from to len)
specs_refusal (specs.LengthMismatch want have) = Some (LengthMismatch want have)
specs_refusal (specs.TooLong len most) = Some (TooLong len most)
specs_refusal specs.NoRanges = Some NoRanges
specs_refusal (specs.BadMain main count) = Some (BadMain main count)
specs_refusal (specs.SelectionOutside place len) = Some (SelectionOutside place len)
specs_refusal (specs.UnknownEffect id) = Some (UnknownEffect id)
specs_refusal (specs.UnknownCompartment id) = Some (UnknownCompartment id)
specs_refusal specs.NoMemory = None

-- why a line with this refusal is not carried out; without one it is out of memory
abbrev pub line_error : Option Refusal → LineError
line_error None = NoMemory
line_error (Some refusal) = Refused refusal

-- what is made, unless there is a refusal
abbrev pub unless : {A : Type 0} → Option Refusal → A → Result A Refusal
unless None made = Ok made
unless (Some refusal) made = Err refusal
