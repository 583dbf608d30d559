use Rattle.std.specs.Prelude.{ℕ, ◌+◌, List, [], ◌∷◌, ◌++◌, cond, nat_lt, flat_map, length, Option, Some, None, slice_get}
use Rattle.std.specs.Option.{option_map, unwrap_or}
use Rattle.dep_graph.specs.declared.edge.Edge.{Edge}
use Rattle.dep_graph.specs.Order.{edge}
use Rattle.configuration.specs.declared.dependency.Dependency.{Dependency}
use Rattle.configuration.specs.declared.dependency.Dependency.TheVariants as dependency
use Rattle.configuration.specs.declared.facet_def.FacetDef.{FacetDef}
use Rattle.configuration.specs.declared.field_def.FieldDef.{FieldDef}
use Rattle.configuration.specs.declared.node_def.NodeDef.{NodeDef}
use Rattle.configuration.specs.declared.node_def.NodeDef.TheVariants.{Compute, ComputeN, From}

-- vertex of a dependency: a declared facet or field is one, the document and the selection are none
abbrev pub vertex_of : ℕ → ℕ → Dependency → Option ℕ
vertex_of facets fields dependency.Doc = None
vertex_of facets fields dependency.Selection = None
vertex_of facets fields (dependency.Facet facet) = cond (nat_lt facet facets) (Some facet) None
vertex_of facets fields (dependency.Field field) = cond (nat_lt field fields) (Some (facets + field)) None

-- pair: a vertex depends on another, if there is one
abbrev pub pair_with : ℕ → Option ℕ → List Edge
pair_with vertex None = []
pair_with vertex (Some d) = edge vertex d ∷ []

-- read pair: a vertex depends on a declared facet or field that it reads
abbrev pub read_pair : ℕ → ℕ → ℕ → Dependency → List Edge
read_pair facets fields vertex read = pair_with vertex (vertex_of facets fields read)

-- reads of a node: what an input declares
abbrev pub reads_of : {V : Type 0} → Option (NodeDef V) → List Dependency
reads_of (Some (Compute rule reads)) = reads
reads_of (Some (ComputeN rule reads)) = reads
reads_of (Some (From field rule)) = dependency.Field field ∷ []
reads_of _ = []

-- reads of a field
abbrev pub reads_in : Option FieldDef → List Dependency
reads_in field = unwrap_or (option_map (λ (def : FieldDef). def.reads) field) []

-- pairs of inputs: a facet depends on what its present inputs declare
abbrev pub input_pairs : {V : Type 0} → ℕ → ℕ → List (NodeDef V) → ℕ → ℕ → List Edge
input_pairs facets fields node_defs facet node = flat_map (read_pair facets fields facet) (reads_of (slice_get node_defs node))

-- pairs of the inputs of all facets, from a facet on
abbrev pub facet_pairs_from : {V : Type 0} → ℕ → ℕ → List (NodeDef V) → ℕ → List (List ℕ) → List Edge
facet_pairs_from facets fields node_defs facet [] = []
facet_pairs_from facets fields node_defs facet (nodes ∷ rest) = flat_map (input_pairs facets fields node_defs facet) nodes ++ facet_pairs_from facets fields node_defs (facet + 1) rest

-- pairs of a field: a present field depends on what it reads, an absent one on nothing
abbrev pub field_pairs : ℕ → ℕ → List FieldDef → ℕ → Option ℕ → List Edge
field_pairs facets fields defs field None = []
field_pairs facets fields defs field (Some node) = flat_map (read_pair facets fields (facets + field)) (reads_in (slice_get defs field))

-- pairs of all fields, from a field on
abbrev pub field_pairs_from : ℕ → ℕ → List FieldDef → ℕ → List (Option ℕ) → List Edge
field_pairs_from facets fields defs field [] = []
field_pairs_from facets fields defs field (node ∷ rest) = field_pairs facets fields defs field node ++ field_pairs_from facets fields defs (field + 1) rest

-- dependency pairs: of the inputs of each facet and of the nodes of each field that are present
abbrev pub pairs : {V : Type 0} → List FacetDef → List FieldDef → List (NodeDef V) → List (List ℕ) → List (Option ℕ) → List Edge
pairs facets fields node_defs inputs nodes =
    facet_pairs_from (length facets) (length fields) node_defs 0 inputs ++ field_pairs_from (length facets) (length fields) fields 0 nodes
