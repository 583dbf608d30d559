-- What a registry holds, as plain data, and what each declaration makes of it.
use Rattle.std.specs.Prelude.{◌≡◌, ℕ, ◌+◌, List, [], ◌∷◌, ◌++◌, Bool, true, false, Option, Some, None, get_or, set}
use Rattle.configuration.specs.declared.facet_def.FacetDef.{FacetDef}
use Rattle.configuration.specs.declared.field_def.FieldDef.{FieldDef}
use Rattle.configuration.specs.declared.node_def.NodeDef.{NodeDef}
use Rattle.configuration.specs.declared.node_def.NodeDef.TheVariants as defs
use Rattle.configuration.specs.declared.defs.Defs.{Defs}
use Rattle.ext_tree.specs.declared.node.Node.{Node}
use Rattle.ext_tree.specs.declared.node.Node.TheVariants as nodes
use Rattle.ext_tree.specs.Links.{LinkLists}
use Rattle.values.specs.declared.val.Val.{Val}

-- how many there may be of each kind
abbrev pub max_count : ℕ
max_count = 1048576

-- Declarations: the facets and fields by id, the nodes with their definitions, what facets enable and fields provide, which
-- fields are placed, the map numbers and the pairs of the effect kinds, and how many compartments there are.
pub record Declarations : Type 0 where
  pub facets : List FacetDef
  pub fields : List FieldDef
  pub nodes : List Node
  pub node_defs : List (NodeDef Val)
  pub links : LinkLists
  pub placed : List Bool
  pub maps : List (Option ℕ)
  pub pairs : List (Option ℕ)
  pub compartments : ℕ

-- nothing declared
abbrev pub nothing : Declarations
nothing = record { facets = []; fields = []; nodes = []; node_defs = []; links = record { enabled = []; provided = [] }; placed = []; maps = []; pairs = []; compartments = 0 }

-- the definitions that a configuration is resolved over are those that are declared
pub record AreDefs (defs : Defs Val) (d : Declarations) : Type 0 where
  pub facets_are : defs.facets ≡ d.facets
  pub fields_are : defs.fields ≡ d.fields
  pub node_defs_are : defs.node_defs ≡ d.node_defs
  pub links_are : defs.links ≡ d.links

-- with the next facet, which enables nodes (Reference Manual, Facet.define)
abbrev pub with_facet : Declarations → FacetDef → List ℕ → Declarations
with_facet d def enables = record d { facets = d.facets ++ def ∷ []; links = record d.links { enabled = d.links.enabled ++ enables ∷ [] } }

-- with the next field, which isn't placed yet (Reference Manual, StateField.define)
abbrev pub with_field : Declarations → FieldDef → Declarations
with_field d def = record d { fields = d.fields ++ def ∷ []; links = record d.links { provided = d.links.provided ++ [] ∷ [] }; placed = d.placed ++ false ∷ [] }

-- with the next node
abbrev pub with_node : Declarations → Node → NodeDef Val → Declarations
with_node d node def = record d { nodes = d.nodes ++ node ∷ []; node_defs = d.node_defs ++ def ∷ [] }

-- placed: with the node of a field, which provides nodes (Reference Manual, StateField.define, provide)
abbrev pub with_placed : Declarations → ℕ → List ℕ → Declarations
with_placed d field provides =
    record (with_node d (nodes.Field field) defs.Field) { links = record d.links { provided = set d.links.provided field provides }; placed = set d.placed field true }

-- with the next effect kind, which may have a map (Reference Manual, StateEffect.define)
abbrev pub with_effect : Declarations → Option ℕ → Declarations
with_effect d map = record d { maps = d.maps ++ map ∷ []; pairs = d.pairs ++ None ∷ [] }

-- with the next compartment
abbrev pub with_compartment : Declarations → Declarations
with_compartment d = record d { compartments = d.compartments + 1 }

-- paired: each of two effect kinds undoes the other
abbrev pub with_pair : Declarations → ℕ → ℕ → Declarations
with_pair d effect back = record d { pairs = set (set d.pairs effect (Some back)) back (Some effect) }

-- whether a field is placed
abbrev pub is_placed : Declarations → ℕ → Bool
is_placed d field = get_or d.placed field false
