-- A configuration over some definitions: the facets with their inputs, and the fields that are present (System Guide, Configuration).
use Rattle.std.specs.Prelude.{ℕ, ◌+◌, ◌-◌, List, [], ◌++◌, map, length, Option, None, Some, slice_get, get_or}
use Rattle.std.specs.Option.{option_and_then, option_flatten, option_map}
use Rattle.std.specs.List.{range_with_len}
use Rattle.configuration.specs.declared.facet_def.FacetDef.{FacetDef}
use Rattle.configuration.specs.declared.field_def.FieldDef.{FieldDef}
use Rattle.configuration.specs.declared.node_def.NodeDef.{NodeDef}
use Rattle.configuration.specs.declared.node_def.NodeDef.TheVariants.{Init}
use Rattle.configuration.specs.declared.vertex.Vertex.{Vertex}
use Rattle.configuration.specs.declared.vertex.Vertex.TheVariants.{Facet}
use Rattle.configuration.specs.Config.{ConfigView}
use Rattle.values.specs.declared.val.Val.{Val}

-- Definitions: of facets, fields and nodes, each at its id.
pub record Definitions : Type 0 where
  pub facets : List FacetDef
  pub fields : List FieldDef
  pub node_defs : List (NodeDef Val)

-- Setup: a configuration, and the definitions that it stands over. These may have grown since it was resolved.
pub record Setup : Type 0 where
  pub defs : Definitions
  pub config : ConfigView

-- an input node with its definition, none where there is no such node
pub record InputNode : Type 0 where
  pub node : ℕ
  pub input : Option (NodeDef Val)

-- a declared facet with its present inputs, in flat order
pub record PresentFacet : Type 0 where
  pub def : FacetDef
  pub inputs : List InputNode

-- a present field, with the first value that its first node in flat order gives it, if it gives one
pub record PresentField : Type 0 where
  pub def : FieldDef
  pub init : Option Val

abbrev pub input_node : List (NodeDef Val) → ℕ → InputNode
input_node node_defs node = record { node = node; input = slice_get node_defs node }

-- the present inputs of a facet; a facet that was declared after the configuration was resolved has none
abbrev pub inputs_at : Setup → ℕ → List InputNode
inputs_at setup facet = map (input_node setup.defs.node_defs) (get_or setup.config.inputs facet [])

-- Facet: the one of an id, none where it is not declared.
abbrev pub facet_at : Setup → ℕ → Option PresentFacet
facet_at setup facet = option_map (λ (def : FacetDef). record { def = def; inputs = inputs_at setup facet }) (slice_get setup.defs.facets facet)

-- the first value that a node gives its field
abbrev pub init_of : Option (NodeDef Val) → Option Val
init_of (Some (Init v)) = Some v
init_of _ = None

-- the node of a field that is present
abbrev pub node_at : Setup → ℕ → Option ℕ
node_at setup field = option_flatten (slice_get setup.config.fields field)

abbrev pub field_with : Setup → ℕ → ℕ → Option PresentField
field_with setup field node = option_map (λ (def : FieldDef). record { def = def; init = init_of (slice_get setup.defs.node_defs node) }) (slice_get setup.defs.fields field)

-- Field: the one of an id, none where it is absent or not declared.
abbrev pub field_at : Setup → ℕ → Option PresentField
field_at setup field = option_and_then (field_with setup field) (node_at setup field)

-- how many facets were declared after the configuration was resolved
abbrev pub new_facets : Setup → ℕ
new_facets setup = length setup.defs.facets - length setup.config.inputs

-- Order: the configuration's facets and fields in dependency order, and then the facets that were declared since.
abbrev pub order_of : Setup → List Vertex
order_of setup = setup.config.order ++ map Facet (range_with_len (length setup.config.inputs) (new_facets setup))

-- how many facets and fields have values
abbrev pub vertex_count : Setup → ℕ
vertex_count setup = length setup.defs.facets + length setup.config.fields
