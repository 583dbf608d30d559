-- The value that a JSON value is, as an annotation carries it: nothing, a truth value, a whole number, a text, or a list of
-- values. It is at most 16 deep.
use Rattle.std.specs.Prelude.{ℕ, List, Option, Some, None, Result, nat_le, if◌then◌else◌, option_map, option_and_then}
use Rattle.std.specs.Str.{chars}
use Rattle.serde_json.specs.Data.{Data, null, boolean, number, string, array, object, Items, no_items, item}
use Rattle.serde_json.specs.Find.{as_i64}
use Rattle.cm_plain.specs.Datum as plain
use Rattle.cm_plain.specs.declared.plain.Plain.{Plain}
use Rattle.cm_plain.specs.declared.plain.Plain.TheVariants.{Unit as Nothing, Bool as Truth, Int, Text, List as Values}
use Rattle.script.specs.declared.refusal.Refusal.{Refusal}
use Rattle.script.specs.Reading.{or_bad}

-- a list, unless it is deeper than a value may be
abbrev pub unless_deep : plain.Data → Option plain.Datum
unless_deep ds = if nat_le (plain.depth (plain.list ds)) plain.max_depth then Some (plain.list ds) else None

-- an item, if it is a value, before the others, if they are
abbrev pub with_first : Option plain.Datum → Option plain.Data → Option plain.Data
with_first None others = None
with_first (Some d) others = option_map (plain.datum d) others

-- what a JSON value is; none where it is or has an object, a number that is no whole one of 64 bits with sign, or a list
-- that is too deep
abbrev mutual
  pub value_of : Data → Option plain.Datum
  value_of null = Some plain.unit
  value_of (boolean b) = Some (plain.boolean b)
  value_of (number n) = option_map plain.number (as_i64 n)
  value_of (string s) = Some (plain.text (chars s))
  value_of (array ds) = option_and_then unless_deep (values_of ds)
  value_of (object ms) = None

  pub values_of : Items → Option plain.Data
  values_of no_items = Some plain.no_data
  values_of (item d ds) = with_first (value_of d) (values_of ds)

-- the value that a datum is
abbrev pub plain_of : plain.Datum → Plain
plain_of plain.unit = Nothing
plain_of (plain.boolean b) = Truth b
plain_of (plain.number z) = Int z
plain_of (plain.text s) = Text s
plain_of (plain.list ds) = Values (plain.items_of ds)

-- a value
unfoldable pub value_at : List ℕ → Data → Result Plain Refusal
value_at name d = or_bad name (option_map plain_of (value_of d))
