-- The shipped rules that make the first value of a field (manual: StateField.define, StateFieldSpec.create).
use Rattle.std.specs.Prelude.{ℕ, pos, List, [], ◌∷◌}
use Rattle.cm_plain.specs.Form.{Form, any, lists, ranges, history}
use Rattle.cm_plain.specs.declared.plain.Plain.TheVariants as plain
use Rattle.history.specs.Histories.{empty}
use Rattle.values.specs.declared.val.Val.{Val}
use Rattle.values.specs.declared.val.Val.TheVariants.{Plain, Ranges, History}
use Rattle.values.specs.Views.{DepsView}
use Rattle.values.specs.Reading.{row, any_int, int, nothing, first_plain}
use Rattle.values.specs.Computing.{document_length}

-- Create: by the rule's number.
abbrev pub create : ℕ → DepsView → Val
create n =
    row n first_plain
    ((1, λ deps. nothing)  -- Unit
    ∷ (2, λ deps. int (pos 0))  -- the number 0
    ∷ (3, document_length)
    ∷ (4, λ deps. Plain (plain.List []))  -- the empty list
    ∷ (5, λ deps. Ranges [])  -- no ranges
    ∷ (6, λ deps. History empty)  -- the empty history
    ∷ (7, first_plain)
    ∷ [])

abbrev pub create_output : ℕ → Form
create_output n =
    row n any
    ((1, any)
    ∷ (2, any_int)
    ∷ (3, any_int)
    ∷ (4, lists any)
    ∷ (5, ranges)
    ∷ (6, history)
    ∷ (7, any)
    ∷ [])
