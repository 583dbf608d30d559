-- The shipped change guards (manual: EditorState.changeFilter). Each is given the transaction and the value of the facet
-- `filterData`.
use Rattle.std.specs.Prelude.{ℕ, List, [], ◌∷◌, filter_map, Option}
use Rattle.std.specs.Option.{option_and_then}
use Rattle.cm_plain.specs.Datum.{Datum}
use Rattle.kept_effects.specs.MappedValues.{two_numbers}
use Rattle.values.specs.declared.answers.Guarding.{Guarding}
use Rattle.values.specs.declared.answers.Guarding.TheVariants.{All, Nothing, Protected}
use Rattle.values.specs.declared.val.Val.{Val}
use Rattle.values.specs.Views.{TransactionView}
use Rattle.values.specs.Reading.{row, value_of, items_in, places_in}

-- the range that an item names: a list of two places
abbrev pub range_item : Datum → Option (ℕ × ℕ)
range_item d = option_and_then places_in (two_numbers (value_of d))

-- the ranges that the items of a value name
abbrev pub protected_ranges : Val → List (ℕ × ℕ)
protected_ranges v = filter_map range_item (items_in v)

-- Guard: by the rule's number.
abbrev pub guard : ℕ → TransactionView → (filter_data : Val) → Guarding
guard n =
    row n (λ t given. All)
    ((1, λ t given. All)  -- all changes stay
    ∷ (2, λ t given. Nothing)  -- none stays
    ∷ (3, λ t given. Protected (protected_ranges given))
    ∷ [])
