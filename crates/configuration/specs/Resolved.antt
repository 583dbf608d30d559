use Rattle.std.specs.Prelude.{◌≡◌, ℕ, ◌+◌, List, Some, None, length, ⊤}
use Rattle.compartments.specs.Contents.{content_of, kept_content}
use Rattle.dep_graph.specs.declared.edge.Edge.{Edge}
use Rattle.ext_tree.specs.Tree.{Tree}
use Rattle.ext_tree.specs.Unfolding.{unfolding_of}
use Rattle.ext_tree.specs.Refusal.{Unknown, Loop, Duplicate, first_refusal, slots_met}
use Rattle.ext_tree.specs.Flat.{flat_order}
use Rattle.configuration.specs.declared.facet_def.FacetDef.{FacetDef}
use Rattle.configuration.specs.declared.field_def.FieldDef.{FieldDef}
use Rattle.configuration.specs.declared.node_def.NodeDef.{NodeDef}
use Rattle.configuration.specs.declared.config_error.ConfigError.{ConfigError}
use Rattle.configuration.specs.declared.config_error.ConfigError.TheVariants as config
use Rattle.configuration.specs.Vertices.{AreOrdered, AreCircle}
use Rattle.configuration.specs.Present.{input_lists, field_nodes, compartments_of}
use Rattle.configuration.specs.Pairs.{pairs}
use Rattle.configuration.specs.Config.{ConfigView}

-- dependency pairs of a base: those of what is present in its flat order
abbrev pub pairs_of : {V : Type 0} → Tree → List FacetDef → List FieldDef → List (NodeDef V) → List ℕ → List Edge
pairs_of t facets fields defs base = pairs facets fields defs (input_lists t.nodes (length facets) (flat_order t base)) (field_nodes t.nodes (length fields) (flat_order t base))

-- configuration of a base: its flat order; the inputs and the first nodes in it; an order along the dependency pairs; the
-- set contents of the compartments that were met (System Guide, Configuration; Reference Manual, Compartment)
pub record IsConfig {V : Type 0} (t : Tree) (facets : List FacetDef) (fields : List FieldDef) (defs : List (NodeDef V)) (base : List ℕ) (config : ConfigView) : Type 0 where
  pub passes : first_refusal t base ≡ None
  pub base_is : config.base ≡ base
  pub flat_is : config.flat ≡ flat_order t base
  pub inputs_are : config.inputs ≡ input_lists t.nodes (length facets) (flat_order t base)
  pub fields_are : config.fields ≡ field_nodes t.nodes (length fields) (flat_order t base)
  pub order_is : AreOrdered (length facets) (length facets + length fields) (pairs_of t facets fields defs base) config.order
  pub contents_are : (c : ℕ) → content_of config.contents c ≡ kept_content (compartments_of t.nodes (slots_met t (unfolding_of t base))) t.contents c

-- cause of an error: the first refusal of the extension tree, or, where that passes, the circle of the dependency pairs
abbrev pub IsCause : {V : Type 0} → Tree → List FacetDef → List FieldDef → List (NodeDef V) → List ℕ → ConfigError → Type 0
IsCause t facets fields defs base config.NoMemory = ⊤
IsCause t facets fields defs base (config.UnknownExt id) = first_refusal t base ≡ Some (Unknown id)
IsCause t facets fields defs base (config.DuplicateCompartment compartment first second) = first_refusal t base ≡ Some (Duplicate compartment first second)
IsCause t facets fields defs base (config.CompartmentLoop path) = first_refusal t base ≡ Some (Loop path)
IsCause t facets fields defs base (config.Cycle members) =
    (first_refusal t base ≡ None) × AreCircle (length facets) (length facets + length fields) (pairs_of t facets fields defs base) members
