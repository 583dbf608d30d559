-- The shipped rules that compute several inputs of a facet (manual: Facet.computeN).
use Rattle.std.specs.Prelude.{ℕ, pos, List, [], ◌∷◌, map, length, option_map}
use Rattle.std.specs.Option.{unwrap_or}
use Rattle.line_tree.specs.Lines.{line_texts}
use Rattle.cm_plain.specs.Form.{Form, any}
use Rattle.values.specs.declared.val.Val.{Val}
use Rattle.values.specs.declared.val.Val.TheVariants.{Plain}
use Rattle.values.specs.Views.{DepsView}
use Rattle.values.specs.Reading.{row, any_int, int, items_in, nothing, value_of, first_read}

-- the length of each line, none where the document isn't declared
abbrev pub line_lengths : DepsView → List Val
line_lengths deps = map (λ line. int (pos (length line))) (unwrap_or (option_map line_texts deps.document) [])

-- the items of the first read where it is a list
abbrev pub first_items : DepsView → List Val
first_items deps = map (λ d. Plain (value_of d)) (items_in (unwrap_or (first_read deps) nothing))

-- Compute a list: by the rule's number.
abbrev pub compute_list : ℕ → DepsView → List Val
compute_list n =
    row n first_items
    ((1, line_lengths)
    ∷ (2, first_items)
    ∷ [])

-- what each item is
abbrev pub list_output : ℕ → Form
list_output n =
    row n any
    ((1, any_int)
    ∷ (2, any)
    ∷ [])
