-- Worked examples of what a base comes to.
use Rattle.std.proofs.Common.{◌≡◌, ℕ, List, [], ◌∷◌, false, Some, None, Result, Ok, Err, refl}
use Rattle.ext_tree.specs.Tree.{Tree, tree_of}
use Rattle.ext_tree.specs.declared.node.Node.{Node}
use Rattle.ext_tree.specs.declared.node.Node.TheVariants.{Slot, Input, Field, Init}
use Rattle.configuration.specs.declared.dependency.Dependency.TheVariants as dependency
use Rattle.configuration.specs.declared.facet_def.FacetDef.{FacetDef}
use Rattle.configuration.specs.declared.field_def.FieldDef.{FieldDef}
use Rattle.configuration.specs.declared.node_def.NodeDef.{NodeDef}
use Rattle.configuration.specs.declared.node_def.NodeDef.TheVariants as def
use Rattle.configuration.specs.declared.vertex.Vertex.TheVariants as vertex
use Rattle.configuration.specs.declared.config_error.ConfigError.{ConfigError}
use Rattle.configuration.specs.declared.config_error.ConfigError.TheVariants as config
use Rattle.resolution.specs.Circles.{circle_of}
use Rattle.resolution.specs.Resolution.{PlainConfig, resolved}

-- two inputs of facet 0, a field's node and its init, two slots of compartment 5, and an input of facet 1
abbrev nodes : List Node
nodes = Input 0 ∷ Input 0 ∷ Field 0 ∷ Init 0 ∷ Slot 5 0 ∷ Slot 5 1 ∷ Input 1 ∷ []

abbrev tree : List (ℕ × ℕ) → Tree
tree contents = tree_of nodes contents (record { enabled = []; provided = [] })

abbrev facet : FacetDef
facet = record { combine = 1; compare_input = 1; compare = 1; is_static = false }

-- the field reads facet 1, and the input of facet 1 is computed from what it reads
abbrev field : FieldDef
field = record { create = 1; update = 1; compare = 1; reads = dependency.Facet 1 ∷ []; listens = [] }

abbrev defs : NodeDef ℕ → List (NodeDef ℕ)
defs last = def.Of 7 ∷ def.Of 8 ∷ def.Field ∷ def.Init 3 ∷ def.Branch ∷ def.Branch ∷ last ∷ []

abbrev answer : List (ℕ × ℕ) → NodeDef ℕ → List ℕ → Result PlainConfig ConfigError
unfolding resolved circle_of
answer contents last base = resolved (tree contents) (facet ∷ facet ∷ []) (field ∷ []) (defs last) base

-- a slot has the content that was set, the first node of a field counts, and a content that was not met is dropped
plain : answer ((5, 1) ∷ (9, 0) ∷ []) (def.Of 2) (3 ∷ 4 ∷ 2 ∷ 6 ∷ []) ≡ Ok (record {
  base = 3 ∷ 4 ∷ 2 ∷ 6 ∷ [];
  flat = 3 ∷ 1 ∷ 2 ∷ 6 ∷ [];
  inputs = (1 ∷ []) ∷ (6 ∷ []) ∷ [];
  fields = Some 3 ∷ [];
  contents = (5, 1) ∷ [];
})
unfolding resolved circle_of
plain = refl

-- the least unknown id comes first
unknown : answer ((5, 8) ∷ []) (def.Of 2) (9 ∷ 4 ∷ 5 ∷ []) ≡ Err (config.UnknownExt 8)
unfolding resolved circle_of
unknown = refl

-- a slot that is set to itself, a second slot of a compartment
loop : answer ((5, 4) ∷ []) (def.Of 2) (4 ∷ 5 ∷ []) ≡ Err (config.CompartmentLoop (4 ∷ 4 ∷ []))
unfolding resolved circle_of
loop = refl

duplicate : answer [] (def.Of 2) (4 ∷ 5 ∷ []) ≡ Err (config.DuplicateCompartment 5 4 5)
unfolding resolved circle_of
duplicate = refl

-- the field reads facet 1, whose input is computed from the field: vertex 1 is facet 1, vertex 2 the field
circle : answer [] (def.From 0 2) (2 ∷ 6 ∷ []) ≡ Err (config.Cycle (vertex.Facet 1 ∷ vertex.Field 0 ∷ []))
unfolding resolved circle_of
circle = refl

-- an absent field depends on nothing
absent : answer [] (def.From 0 2) (6 ∷ []) ≡ Ok (record { base = 6 ∷ []; flat = 6 ∷ []; inputs = [] ∷ (6 ∷ []) ∷ []; fields = None ∷ []; contents = [] })
unfolding resolved circle_of
absent = refl
