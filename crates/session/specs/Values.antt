-- The value of a facet or a field, and how it is answered.
use Rattle.std.specs.Prelude.{List, [], map, length, ltb, Option, None, Some, option_map, slice_get, if◌then◌else◌}
use Rattle.configuration.specs.declared.facet_def.FacetDef.{FacetDef}
use Rattle.configuration.specs.declared.vertex.Vertex.TheVariants.{Facet, Field}
use Rattle.decoration.specs.declared.deco.Deco.{Deco}
use Rattle.decoration.specs.Places.{kind_of}
use Rattle.range_set.specs.declared.ranged.Ranged.{Ranged}
use Rattle.history.specs.Items.{change_count}
use Rattle.values.specs.declared.val.Val.{Val}
use Rattle.values.specs.declared.val.Val.TheVariants as vals
use Rattle.values.specs.Declarations.{Declarations}
use Rattle.values.specs.Rules.{Rules}
use Rattle.facet_slots.specs.Stepping.{State}
use Rattle.names.specs.declared.valued.Valued.{Valued}
use Rattle.names.specs.declared.valued.Valued.TheVariants as valued
use Rattle.replies.specs.declared.shown.Shown.{Shown}
use Rattle.replies.specs.declared.shown.Shown.TheVariants.{Plain, Ranges, Layers, History, Absent}
use Rattle.replies.specs.declared.shown.ShownRange.{ShownRange}

-- a facet that was declared after the state was made: it has no inputs
abbrev pub unfilled : Rules → FacetDef → Val
unfilled rules def = rules.combine def.combine []

-- Value: that of a facet in a state, or of a field that is present
abbrev pub value_of : Rules → Declarations → State → Valued → Option Val
value_of rules d s (valued.Facet id) =
    if ltb id (length s.setup.defs.facets) then s.values (Facet id) else option_map (unfilled rules) (slice_get d.facets id)
value_of rules d s (valued.Field id) = s.values (Field id)

-- a range of a set of decorations, as it is answered
abbrev pub shown_range : Ranged Deco → ShownRange
shown_range r = record { from = r.from; kind = kind_of r.value; to = r.to }

abbrev pub shown_ranges : List (Ranged Deco) → List ShownRange
shown_ranges rs = map shown_range rs

-- a value as it is answered: of a history, how many Changes can be undone, and done again
abbrev pub shown : Option Val → Shown
shown None = Absent
shown (Some (vals.Plain p)) = Plain p
shown (Some (vals.Ranges rs)) = Ranges (shown_ranges rs)
shown (Some (vals.Layers ls)) = Layers (map shown_ranges ls)
shown (Some (vals.History h)) = History (change_count h.done) (change_count h.undone)
