-- The shipped rules that compute an input of a facet (manual: Facet.compute).
use Rattle.std.specs.Prelude.{ℕ, ℤ, pos, List, [], ◌∷◌, length, slice_get, filter_map, Option, option_map}
use Rattle.std.specs.Option.{option_and_then, unwrap_or}
use Rattle.line_tree.specs.Lines.{line_texts}
use Rattle.cm_plain.specs.Form.{Form, any, ranges}
use Rattle.selection.specs.declared.range.Range.{Range}
use Rattle.selection.specs.Selections.{SelectionView}
use Rattle.values.specs.declared.val.Val.{Val}
use Rattle.values.specs.declared.val.Val.TheVariants.{Ranges}
use Rattle.values.specs.Views.{DepsView}
use Rattle.values.specs.Reading.{row, any_int, sum_of, int, nothing, number_in, ranges_in, first_read, first_plain}

-- a length as a value, or 0
abbrev pub length_or_zero : Option ℕ → Val
length_or_zero n = int (pos (unwrap_or n 0))

-- the document's length, 0 where it isn't declared
abbrev pub document_length : DepsView → Val
document_length deps = length_or_zero (option_map length deps.document)

-- how many lines the document has, 0 where it isn't declared
abbrev pub line_count : DepsView → Val
line_count deps = length_or_zero (option_map (λ document. length (line_texts document)) deps.document)

-- the head of a selection's main range
abbrev pub head_of : SelectionView → Option ℕ
head_of selection = option_map (λ (range : Range). range.head) (slice_get selection.ranges selection.main)

-- the head of the main range, 0 where the document or the selection isn't declared
abbrev pub main_head : DepsView → Val
main_head deps = length_or_zero (option_and_then (λ document. option_and_then head_of deps.selection) deps.document)

-- a read, where it is a number
abbrev pub number_read : Option Val → Option ℤ
number_read v = option_and_then number_in v

-- the sum of the reads that are numbers
abbrev pub sum_of_reads : DepsView → Val
sum_of_reads deps = int (sum_of (filter_map number_read deps.values))

-- the first read as a set, which is empty where it is none
abbrev pub first_ranges : DepsView → Val
first_ranges deps = Ranges (ranges_in (unwrap_or (first_read deps) nothing))

-- Compute: by the rule's number.
abbrev pub compute : ℕ → DepsView → Val
compute n =
    row n first_plain
    ((1, document_length)
    ∷ (2, line_count)
    ∷ (3, main_head)
    ∷ (4, first_plain)
    ∷ (5, sum_of_reads)
    ∷ (6, first_ranges)
    ∷ [])

abbrev pub compute_output : ℕ → Form
compute_output n =
    row n any
    ((1, any_int)
    ∷ (2, any_int)
    ∷ (3, any_int)
    ∷ (4, any)
    ∷ (5, any_int)
    ∷ (6, ranges)
    ∷ [])
