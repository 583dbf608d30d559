-- The values of all facets and fields, settled in dependency order.
use Rattle.std.specs.Prelude.{ℕ, zero, suc, None}
use Rattle.std.specs.Option.{option_map}
use Rattle.configuration.specs.declared.vertex.Vertex.{Vertex}
use Rattle.configuration.specs.declared.vertex.Vertex.TheVariants.{Facet, Field}
use Rattle.values.specs.declared.val.Val.{Val}
use Rattle.values.specs.Rules.{Rules}
use Rattle.values.specs.Views.{DepsView}
use Rattle.facet_slots.specs.Setups.{Setup, PresentField, facet_at, field_at, vertex_count}
use Rattle.facet_slots.specs.Scenes.{SceneView, Values, shown}
use Rattle.facet_slots.specs.FacetValues.{facet_value}

-- Field rule: the value of a present field, by its id, of what it is shown.
abbrev pub FieldRule : Type 0
FieldRule = ℕ → PresentField → DepsView → Val

abbrev pub field_value : SceneView → FieldRule → Values → ℕ → PresentField → Val
field_value scene rule values f field = rule f field (shown scene values field.def.reads)

-- every facet and field found once from the values
abbrev pub round : Rules → Setup → SceneView → FieldRule → Values → Values
round rules setup scene rule values (Facet f) = option_map (facet_value rules scene values) (facet_at setup f)
round rules setup scene rule values (Field f) = option_map (field_value scene rule values f) (field_at setup f)

-- what each has after so many rounds, each of which finds all anew from what the round before it found
abbrev pub rounds : {R : Type 0} → ((Vertex → R) → Vertex → R) → R → ℕ → Vertex → R
rounds once first zero = λ v. first
rounds once first (suc n) = once (rounds once first n)

-- what each has in the end: no chain of dependencies is longer than there are facets and fields
abbrev pub settled : {R : Type 0} → Setup → ((Vertex → R) → Vertex → R) → R → Vertex → R
settled setup once first = rounds once first (vertex_count setup)

-- Values: of all facets and fields, the fields by a rule. That one round more changes nothing is a law of them.
abbrev pub values_of : Rules → Setup → SceneView → FieldRule → Values
values_of rules setup scene rule = settled setup (round rules setup scene rule) None
