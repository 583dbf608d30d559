-- Values of facets and fields, and of which shapes they are.
use Rattle.std.specs.Prelude.{◌≡◌, Bool, true, false, Option, Some, None}
use Rattle.cm_plain.specs.Form.{Form, ranges, layers, history, holds}
use Rattle.cm_plain.specs.Plain.{datum_of}
use Rattle.cm_plain.specs.declared.plain.Plain.{Plain as PlainData}
use Rattle.values.specs.declared.val.Val.{Val}
use Rattle.values.specs.declared.val.Val.TheVariants.{Plain, Ranges, Layers, History}
use Rattle.values.specs.InRange.{IsInRange}

abbrev pub is_ranges : Form → Bool
is_ranges ranges = true
is_ranges f = false

abbrev pub is_layers : Form → Bool
is_layers layers = true
is_layers f = false

abbrev pub is_history : Form → Bool
is_history history = true
is_history f = false

-- Of a shape: a plain value that the shape holds, or a value of the other kind that the shape names.
abbrev pub is_of : Form → Val → Bool
is_of f (Plain p) = holds (datum_of p) f
is_of f (Ranges rs) = is_ranges f
is_of f (Layers ls) = is_layers f
is_of f (History h) = is_history f

-- what each rule may rely on in a value of a shape, and what its answers keep to: the value is of the shape, and in range
pub record IsOf (f : Form) (v : Val) : Type 0 where
  pub shape : is_of f v ≡ true
  pub range : IsInRange v

-- the plain data that a value is, if it is any
abbrev pub plain_of : Val → Option PlainData
plain_of (Plain p) = Some p
plain_of v = None
