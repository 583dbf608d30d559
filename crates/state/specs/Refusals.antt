-- The refusals of what a call is handed, and of what lower crates refuse, by one name each.
use Rattle.std.specs.Prelude.{ℕ, cond, ltb, length, Option, Some, option_map}
use Rattle.line_tree.specs.Text.{max_len}
use Rattle.selection.specs.Selections.{first_outside}
use Rattle.configuration.specs.declared.config_error.ConfigError.{ConfigError}
use Rattle.configuration.specs.declared.config_error.ConfigError.TheVariants as config_error
use Rattle.transaction.specs.declared.error.TransactionError.{TransactionError}
use Rattle.transaction.specs.declared.error.TransactionError.TheVariants as transaction_error
use Rattle.facet_slots.specs.Scenes.{SceneView}
use Rattle.state.specs.declared.state_error.StateError.{StateError}
use Rattle.state.specs.declared.state_error.StateError.TheVariants.{BadRange, LengthMismatch, TooLong, NoRanges, BadMain, SelectionOutside, UnknownEffect, UnknownCompartment, UnknownExt, DuplicateCompartment, CompartmentLoop, Cycle, NoMemory}

-- the refusals of transactions and configurations, by the same names and values
abbrev pub of_transaction_error : TransactionError → StateError
of_transaction_error (transaction_error.BadRange index from to len) = BadRange index from to len
of_transaction_error (transaction_error.LengthMismatch want have) = LengthMismatch want have
of_transaction_error (transaction_error.TooLong len max) = TooLong len max
of_transaction_error transaction_error.NoRanges = NoRanges
of_transaction_error (transaction_error.BadMain main count) = BadMain main count
of_transaction_error (transaction_error.SelectionOutside pos len) = SelectionOutside pos len
of_transaction_error (transaction_error.UnknownEffect id) = UnknownEffect id
of_transaction_error (transaction_error.UnknownCompartment id) = UnknownCompartment id
of_transaction_error transaction_error.NoMemory = NoMemory

abbrev pub of_config_error : ConfigError → StateError
of_config_error config_error.NoMemory = NoMemory
of_config_error (config_error.UnknownExt id) = UnknownExt id
of_config_error (config_error.DuplicateCompartment compartment first second) = DuplicateCompartment compartment first second
of_config_error (config_error.CompartmentLoop path) = CompartmentLoop path
of_config_error (config_error.Cycle members) = Cycle members

-- what refuses a document with its selection: it is too long, or the first range that ends past it
abbrev pub scene_refusal : SceneView → Option StateError
scene_refusal scene =
    cond (ltb max_len (length scene.document)) (Some (TooLong (length scene.document) max_len))
    (option_map (λ (pos : ℕ). SelectionOutside pos (length scene.document)) (first_outside (length scene.document) scene.selection.ranges))
