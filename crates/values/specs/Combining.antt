-- The shipped rules that combine the inputs of a facet (manual: Facet.define, FacetConfig.combine).
use Rattle.std.specs.Prelude.{ℕ, Bool, true, false, ℤ, pos, int_lt, cond, List, [], ◌∷◌, map, fold, filter_map, codes, Option, Some, None}
use Rattle.std.specs.Int.{int_max, int_min}
use Rattle.std.specs.List.{list_any}
use Rattle.cm_plain.specs.Datum.{number}
use Rattle.cm_plain.specs.Form.{Form, any, booleans, numbers, one_of, lists, ranges, layers}
use Rattle.cm_plain.specs.declared.plain.Plain.{Plain as PlainData}
use Rattle.cm_plain.specs.declared.plain.Plain.TheVariants as plain
use Rattle.kept_effects.specs.MappedValues.{two_numbers}
use Rattle.values.specs.declared.val.Val.{Val}
use Rattle.values.specs.declared.val.Val.TheVariants.{Plain, Ranges, Layers, History}
use Rattle.values.specs.Reading.{row, any_int, sum_of, int, nothing, number_in, plain_or_unit, item, ranges_in}

-- the list of the inputs
abbrev pub list_of_inputs : List Val → Val
list_of_inputs inputs = Plain (plain.List (map (λ v. item (plain_or_unit v)) inputs))

-- the first input, or another value where there is none
abbrev pub first_or : Val → List Val → Val
first_or other [] = other
first_or other (v ∷ inputs) = v

abbrev pub is_true : Val → Bool
is_true (Plain (plain.Bool b)) = b
is_true v = false

-- whether one is true
abbrev pub some_true : List Val → Val
some_true inputs = Plain (plain.Bool (list_any is_true inputs))

-- the greatest of some numbers, if there are any
abbrev pub greatest_of : List ℤ → Option ℤ
greatest_of [] = None
greatest_of (z ∷ zs) = Some (fold int_max z zs)

abbrev pub least_of : List ℤ → Option ℤ
least_of [] = None
least_of (z ∷ zs) = Some (fold int_min z zs)

abbrev pub int_or : ℤ → Option ℤ → Val
int_or other (Some z) = int z
int_or other None = int other

-- the greatest, or 0
abbrev pub greatest : List Val → Val
greatest inputs = int_or (pos 0) (greatest_of (filter_map number_in inputs))

-- the sum, from the left
abbrev pub sum_of_inputs : List Val → Val
sum_of_inputs inputs = int (sum_of (filter_map number_in inputs))

-- the sets as layers, in order
abbrev pub as_layers : List Val → Val
as_layers inputs = Layers (map ranges_in inputs)

abbrev pub list_of_two : ℤ → ℤ → Val
list_of_two a b = Plain (plain.List (number a ∷ number b ∷ []))

-- the two numbers of an input that is a list of two numbers
abbrev pub pair_in : Val → Option (ℤ × ℤ)
pair_in (Plain p) = two_numbers p
pair_in v = None

-- the greatest first and the least second number of some pairs; 100 and 500 where there are none
abbrev pub bounds_of : List (ℤ × ℤ) → Val
bounds_of [] = list_of_two (pos 100) (pos 500)
bounds_of (p ∷ ps) = list_of_two (fold int_max p.0 (map (λ q. q.0) ps)) (fold int_min p.1 (map (λ q. q.1) ps))

-- the bounds of the inputs that have two items
abbrev pub bounds : List Val → Val
bounds inputs = bounds_of (filter_map pair_in inputs)

-- Combine: by the rule's number.
abbrev pub combine : ℕ → List Val → Val
combine n =
    row n list_of_inputs
    ((1, list_of_inputs)
    ∷ (2, first_or nothing)
    ∷ (3, some_true)
    ∷ (4, greatest)
    ∷ (5, sum_of_inputs)
    ∷ (6, as_layers)
    ∷ (7, first_or (int (pos 4)))
    ∷ (8, first_or nothing)
    ∷ (9, list_of_inputs)
    ∷ (10, list_of_inputs)
    ∷ (11, list_of_inputs)
    ∷ (12, bounds)
    ∷ (13, first_or (Plain (plain.Bool false)))
    ∷ [])

-- the three ways to end a line
abbrev pub line_ends : Form
line_ends = one_of (codes "\n" ∷ codes "\r\n" ∷ codes "\r" ∷ [])

-- What the inputs are, where there are so many change guards, filters and extenders.
abbrev pub combine_input : (guards filters extenders : ℕ) → ℕ → Form
combine_input guards filters extenders n =
    row n any
    ((1, any)
    ∷ (2, any)
    ∷ (3, booleans)
    ∷ (4, any_int)
    ∷ (5, any_int)
    ∷ (6, ranges)
    ∷ (7, numbers (pos 1) (pos 16))
    ∷ (8, line_ends)
    ∷ (9, numbers (pos 1) (pos guards))
    ∷ (10, numbers (pos 1) (pos filters))
    ∷ (11, numbers (pos 1) (pos extenders))
    ∷ (12, lists (numbers (pos 0) (pos 100000)))
    ∷ (13, booleans)
    ∷ [])

-- What the value is.
abbrev pub combine_output : ℕ → Form
combine_output n =
    row n any
    ((1, lists any)
    ∷ (2, any)
    ∷ (3, booleans)
    ∷ (4, any_int)
    ∷ (5, any_int)
    ∷ (6, layers)
    ∷ (7, numbers (pos 1) (pos 16))
    ∷ (8, any)
    ∷ (9, lists any_int)
    ∷ (10, lists any_int)
    ∷ (11, lists any_int)
    ∷ (12, lists any_int)
    ∷ (13, booleans)
    ∷ [])
