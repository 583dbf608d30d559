-- What a value carries as a type of the program, and the shapes of these types.
use Rattle.std.specs.Prelude.{ℕ, Bool, false, ℤ, pos, negsuc, List, []}
use Rattle.cm_plain.specs.Form.{Form, numbers}
use Rattle.cm_plain.specs.declared.plain.Plain.{Plain as PlainData}
use Rattle.cm_plain.specs.declared.plain.Plain.TheVariants as plain
use Rattle.range_set.specs.declared.ranged.Ranged.{Ranged}
use Rattle.decoration.specs.declared.deco.Deco.{Deco}
use Rattle.history.specs.declared.lists.Lists.{Lists}
use Rattle.history.specs.Histories.{empty}
use Rattle.values.specs.declared.val.Val.{Val}
use Rattle.values.specs.declared.val.Val.TheVariants as val

-- whole numbers of 64 bits with sign
abbrev pub any_number : Form
any_number = numbers (negsuc 9223372036854775807) (pos 9223372036854775807)

-- a truth value, a number or a text as a value, and what a value of its shape carries; of another shape it carries a fixed one
abbrev pub of_truth : Bool → Val
of_truth b = val.Plain (plain.Bool b)

abbrev pub truth_in : Val → Bool
truth_in (val.Plain (plain.Bool b)) = b
truth_in v = false

abbrev pub of_number : ℤ → Val
of_number z = val.Plain (plain.Int z)

abbrev pub number_in : Val → ℤ
number_in (val.Plain (plain.Int z)) = z
number_in v = pos 0

abbrev pub of_text : List ℕ → Val
of_text cs = val.Plain (plain.Text cs)

abbrev pub text_in : Val → List ℕ
text_in (val.Plain (plain.Text cs)) = cs
text_in v = []

-- plain data, a set of decorations, layers or a history in a value of its kind
abbrev pub plain_in : Val → PlainData
plain_in (val.Plain p) = p
plain_in v = plain.Unit

abbrev pub ranges_in : Val → List (Ranged Deco)
ranges_in (val.Ranges rs) = rs
ranges_in v = []

abbrev pub layers_in : Val → List (List (Ranged Deco))
layers_in (val.Layers ls) = ls
layers_in v = []

abbrev pub history_in : Val → Lists
history_in (val.History h) = h
history_in v = empty
