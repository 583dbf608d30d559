-- Which definitions are lawful: rule numbers are of their sorts, and what is given fits where it goes.
use Rattle.std.specs.Prelude.{◌≡◌, ℕ, Option, Some, IfSome, IsSomeAnd}
use Rattle.std.specs.List.{AllByRecursion}
use Rattle.cm_plain.specs.Form.{Form}
use Rattle.configuration.specs.declared.node_def.NodeDef.{NodeDef}
use Rattle.configuration.specs.declared.node_def.NodeDef.TheVariants.{Of, Compute, ComputeN, From}
use Rattle.configuration.specs.declared.vertex.Vertex.{Vertex}
use Rattle.configuration.specs.declared.vertex.Vertex.TheVariants.{Facet, Field}
use Rattle.transaction.specs.Numbers.{IsNumber}
use Rattle.values.specs.declared.val.Val.{Val}
use Rattle.values.specs.Rules.{Rules}
use Rattle.values.specs.Vals.{IsOf}
use Rattle.facet_slots.specs.Setups.{Setup, InputNode, PresentFacet, PresentField, facet_at, field_at}
use Rattle.facet_slots.specs.Scenes.{Values}
use Rattle.facet_slots.specs.Order.{AllNeeds, IsVertex}

-- what is of one shape is of the other
abbrev pub FitsIn : Form → Form → Type 0
FitsIn inner outer = (v : Val) → IsOf inner v → IsOf outer v

-- an input of a combiner: a value of its shape, or a rule that gives such values
abbrev pub FitsCombiner : Rules → ℕ → Option (NodeDef Val) → Type 0
FitsCombiner rules n (Some (Of v)) = IsOf (rules.combine_input n) v
FitsCombiner rules n (Some (Compute rule reads)) = IsNumber rules.computers rule × FitsIn (rules.compute_output rule) (rules.combine_input n)
FitsCombiner rules n (Some (ComputeN rule reads)) = IsNumber rules.list_computers rule × FitsIn (rules.list_output rule) (rules.combine_input n)
FitsCombiner rules n (Some (From field rule)) = IsNumber rules.computers rule × FitsIn (rules.compute_output rule) (rules.combine_input n)
FitsCombiner rules n _ = ⊥

-- lawful facet: its rules are of their sorts, and each input fits the combiner
pub record IsLawfulFacet (rules : Rules) (facet : PresentFacet) : Type 0 where
  pub combine : IsNumber rules.combiners facet.def.combine
  pub compare_input : IsNumber rules.comparers facet.def.compare_input
  pub compare : IsNumber rules.comparers facet.def.compare
  pub inputs : AllByRecursion (λ (node : InputNode). FitsCombiner rules facet.def.combine node.input) facet.inputs

-- lawful field: its rules are of their sorts, and what it is created as fits its updater
pub record IsLawfulField (rules : Rules) (field : PresentField) : Type 0 where
  pub create : IsNumber rules.creators field.def.create
  pub update : IsNumber rules.updaters field.def.update
  pub compare : IsNumber rules.comparers field.def.compare
  pub created : FitsIn (rules.create_output field.def.create) (rules.update_shape field.def.update)
  pub init : IfSome field.init (IsOf (rules.update_shape field.def.update))

-- Lawful: each facet and each present field is, and each id that they name is declared.
pub record IsLawful (rules : Rules) (setup : Setup) : Type 0 where
  pub facets : (f : ℕ) (facet : PresentFacet) → facet_at setup f ≡ Some facet → IsLawfulFacet rules facet
  pub fields : (f : ℕ) (field : PresentField) → field_at setup f ≡ Some field → IsLawfulField rules field
  pub reads : (v : Vertex) → AllNeeds (IsVertex setup) setup v

-- each present field has a value of its updater's shape
abbrev pub FieldsFit : Rules → Setup → Values → Type 0
FieldsFit rules setup values = (f : ℕ) (field : PresentField) → field_at setup f ≡ Some field → IsSomeAnd (values (Field f)) (IsOf (rules.update_shape field.def.update))

-- each facet has a value of its combiner's output shape
abbrev pub FacetsFit : Rules → Setup → Values → Type 0
FacetsFit rules setup values = (f : ℕ) (facet : PresentFacet) → facet_at setup f ≡ Some facet → IsSomeAnd (values (Facet f)) (IsOf (rules.combine_output facet.def.combine))
