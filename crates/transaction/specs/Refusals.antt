-- Which specs are refused, and with which values.
use Rattle.std.specs.Prelude.{ℕ, cond, ltb, List, [], ◌∷◌, length, Option, Some, None, option_map}
use Rattle.std.specs.Option.{option_or}
use Rattle.change_desc.specs.Sections.{spelled, new_size}
use Rattle.change_set.specs.Refusals.{refusal}
use Rattle.change_set.specs.declared.error.ChangesError.{ChangesError}
use Rattle.change_set.specs.declared.error.ChangesError.TheVariants as changes_error
use Rattle.selection.specs.Selections.{first_outside, selection_refusal}
use Rattle.selection.specs.declared.error.SelectionError.{SelectionError}
use Rattle.selection.specs.declared.error.SelectionError.TheVariants as selection_error
use Rattle.transaction.specs.declared.effect.Effect.{Effect}
use Rattle.transaction.specs.declared.effect.Effect.TheVariants.{Kind, Reconfigure}
use Rattle.transaction.specs.declared.effect_kinds.EffectKinds.{EffectKinds}
use Rattle.transaction.specs.declared.spec.Spec.{Spec}
use Rattle.transaction.specs.declared.spec.SelectionSpec.{SelectionSpec}
use Rattle.transaction.specs.declared.error.TransactionError.{TransactionError}
use Rattle.transaction.specs.declared.error.TransactionError.TheVariants.{BadRange, LengthMismatch, TooLong, NoRanges, BadMain, SelectionOutside, UnknownEffect, UnknownCompartment, NoMemory}
use Rattle.transaction.specs.Merging.{Changes, next_total, own_changes, start_len}

-- the refusals of changes and selections, by the same names and values
abbrev pub of_changes_error : ChangesError → TransactionError
of_changes_error (changes_error.BadRange index from to len) = BadRange index from to len
of_changes_error (changes_error.LengthMismatch want have) = LengthMismatch want have
of_changes_error (changes_error.TooLong len max) = TooLong len max
of_changes_error changes_error.NoMemory = NoMemory

abbrev pub of_selection_error : SelectionError → TransactionError
of_selection_error selection_error.NoRanges = NoRanges
of_selection_error (selection_error.BadMain main count) = BadMain main count
of_selection_error selection_error.NoMemory = NoMemory

-- an effect of an unknown kind, or on an unknown compartment
abbrev pub unknown_refusal : {V : Type 0} → EffectKinds → Effect V → Option TransactionError
unknown_refusal kinds (Kind id value) = cond (ltb id (length kinds.maps)) None (Some (UnknownEffect id))
unknown_refusal kinds (Reconfigure compartment to) = cond (ltb compartment kinds.compartments) None (Some (UnknownCompartment compartment))
unknown_refusal kinds effect = None

-- the first such effect of a list
abbrev pub unknown_in : {V : Type 0} → EffectKinds → List (Effect V) → Option TransactionError
unknown_in kinds [] = None
unknown_in kinds (e ∷ es) = option_or (unknown_refusal kinds e) (unknown_in kinds es)

abbrev pub unknown_effect : {V : Type 0} → EffectKinds → List (Spec V) → Option TransactionError
unknown_effect kinds [] = None
unknown_effect kinds (s ∷ specs) = option_or (unknown_in kinds s.effects) (unknown_effect kinds specs)

-- the merged changes so far lead to a document that is too long
abbrev pub too_long : (max : ℕ) → Changes → Option TransactionError
too_long max total = cond (ltb max (new_size spelled total)) (Some (TooLong (new_size spelled total) max)) None

-- what is wrong with a spec's own changes, and then with the merged ones
abbrev pub spec_changes_refusal : {V : Type 0} → (len max : ℕ) → (before : Option Changes) → Spec V → Option TransactionError
spec_changes_refusal len max before s =
    option_or (option_map of_changes_error (refusal (start_len len before s.sequential) max s.changes))
    (too_long max (next_total before s.sequential (own_changes len before s)))

-- of several specs, the first refusal of changes
abbrev pub changes_refusal : {V : Type 0} → (len max : ℕ) → (before : Option Changes) → List (Spec V) → Option TransactionError
changes_refusal len max before [] = None
changes_refusal len max before (s ∷ specs) =
    option_or (spec_changes_refusal len max before s) (changes_refusal len max (Some (next_total before s.sequential (own_changes len before s))) specs)

-- what is wrong with ranges of a document of this length: none, a main range that is none of them, or the first range, as they
-- were given, that ends past the document
abbrev pub ranges_refusal : (len : ℕ) → SelectionSpec → Option TransactionError
ranges_refusal len s =
    option_or (option_map of_selection_error (selection_refusal s.ranges s.main)) (option_map (λ p. SelectionOutside p len) (first_outside len s.ranges))

-- the same of a selection that may be given
abbrev pub given_refusal : (len : ℕ) → Option SelectionSpec → Option TransactionError
given_refusal len None = None
given_refusal len (Some s) = ranges_refusal len s

-- of several specs, the first refusal of a selection; each refers to the document after the spec's own changes
abbrev pub selections_refusal : {V : Type 0} → (len : ℕ) → (before : Option Changes) → List (Spec V) → Option TransactionError
selections_refusal len before [] = None
selections_refusal len before (s ∷ specs) =
    option_or (given_refusal (new_size spelled (own_changes len before s)) s.selection)
    (selections_refusal len (Some (next_total before s.sequential (own_changes len before s))) specs)

-- Refusal: the first effect of an unknown kind or on an unknown compartment; else the first refusal of changes; else the first
-- refusal of a selection.
abbrev pub specs_refusal : {V : Type 0} → (len max : ℕ) → EffectKinds → (before : Option Changes) → List (Spec V) → Option TransactionError
specs_refusal len max kinds before specs =
    option_or (unknown_effect kinds specs) (option_or (changes_refusal len max before specs) (selections_refusal len before specs))
