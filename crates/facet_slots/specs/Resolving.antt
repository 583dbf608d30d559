-- Configurations that were resolved over definitions, which may have grown since.
use Rattle.std.specs.Prelude.{◌≡◌, ◌<◌, ◌≤◌, ℕ, List, [], Some, length, get_or}
use Rattle.std.specs.List.{AllByRecursion}
use Rattle.ext_tree.specs.Tree.{Tree}
use Rattle.configuration.specs.declared.vertex.Vertex.{Vertex}
use Rattle.configuration.specs.Resolved.{IsConfig}
use Rattle.values.specs.declared.val.Val.{Val}
use Rattle.facet_slots.specs.Setups.{Definitions, Setup, node_at}
use Rattle.facet_slots.specs.Order.{AllNeeds, IsVertex}
use Rattle.facet_slots.specs.Agreement.{IsGrown}

-- Resolved: over definitions whose nodes are those of a tree, and which name declared facets and fields alone.
pub record IsResolvedOver (defs : Definitions) (setup : Setup) : Type 0 where
  pub tree : Tree
  pub base : List ℕ
  pub config : IsConfig tree defs.facets defs.fields defs.node_defs base setup.config
  pub defined : length tree.nodes ≤ length defs.node_defs
  pub reads : (v : Vertex) → AllNeeds (IsVertex (record { defs = defs; config = setup.config })) (record { defs = defs; config = setup.config }) v

-- the definitions have only grown since
pub record IsResolved (setup : Setup) : Type 0 where
  pub defs : Definitions
  pub over : IsResolvedOver defs setup
  pub grown : IsGrown defs setup.defs

-- what a resolved configuration has of its definitions: no place past them, and nodes that are defined
pub record IsFormed (setup : Setup) : Type 0 where
  pub inputs : length setup.config.inputs ≤ length setup.defs.facets
  pub fields : length setup.config.fields ≤ length setup.defs.fields
  pub inputs_defined : (f : ℕ) → AllByRecursion (λ (n : ℕ). n < length setup.defs.node_defs) (get_or setup.config.inputs f [])
  pub fields_defined : (f n : ℕ) → node_at setup f ≡ Some n → n < length setup.defs.node_defs
