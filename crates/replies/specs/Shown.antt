-- A value of a facet or a field as it is written.
use Rattle.std.specs.Prelude.{ℕ, List, true, map, codes, encode_utf8_all}
use Rattle.serde_json.specs.Data.{Data, null, boolean, number, string, array, object, Items, no_items, item, no_members, member}
use Rattle.serde_json.specs.Find.{of_integer}
use Rattle.serde_json.specs.View.{items_of}
use Rattle.cm_plain.specs.Datum as plain
use Rattle.cm_plain.specs.Plain.{datum_of}
use Rattle.decoration.specs.declared.kind.Kind.{Kind}
use Rattle.decoration.specs.declared.kind.Kind.TheVariants.{Mark, Widget, Replace, Line}
use Rattle.replies.specs.declared.shown.ShownRange.{ShownRange}
use Rattle.replies.specs.declared.shown.Shown.{Shown}
use Rattle.replies.specs.declared.shown.Shown.TheVariants.{Plain, Ranges, Layers, History, Absent}
use Rattle.replies.specs.Objects.{single, whole}

-- plain data: null for nothing, and else a truth value, a whole number, a text or a list
abbrev mutual
  pub plain_data : plain.Datum → Data
  plain_data plain.unit = null
  plain_data (plain.boolean b) = boolean b
  plain_data (plain.number z) = number (of_integer z)
  plain_data (plain.text s) = string (encode_utf8_all s)
  plain_data (plain.list ds) = array (plain_items ds)

  pub plain_items : plain.Data → Items
  plain_items plain.no_data = no_items
  plain_items (plain.datum d ds) = item (plain_data d) (plain_items ds)

-- the word for what a decoration does
abbrev pub kind_word : Kind → List ℕ
kind_word Mark = codes "mark"
kind_word Widget = codes "widget"
kind_word Replace = codes "replace"
kind_word Line = codes "line"

-- where a decoration stands, and what it does
abbrev pub shown_range : ShownRange → Data
shown_range r = object (member (codes "from") (whole r.from) (member (codes "kind") (string (kind_word r.kind)) (member (codes "to") (whole r.to) no_members)))

-- the ranges of a set of decorations, in order
abbrev pub shown_ranges : List ShownRange → Data
shown_ranges ranges = array (items_of (map shown_range ranges))

-- a history: how many groups can be undone, and how many redone
abbrev pub history_data : (done undone : ℕ) → Data
history_data done undone = object (member (codes "done") (whole done) (member (codes "undone") (whole undone) no_members))

-- a value
abbrev pub shown_data : Shown → Data
shown_data (Plain p) = plain_data (datum_of p)
shown_data (Ranges ranges) = shown_ranges ranges
shown_data (Layers sets) = array (items_of (map shown_ranges sets))
shown_data (History done undone) = history_data done undone
shown_data Absent = single (codes "absent") (boolean true)
