-- The configuration of a base, or why there is none, as a function of the tree, the definitions and the base.
use Rattle.std.specs.Prelude.{◌≡◌, ℕ, ◌+◌, List, [], ◌∷◌, map, length, Option, Some, None, Result, Ok, Err}
use Rattle.compartments.specs.Contents.{content_of, with_content}
use Rattle.ext_tree.specs.Tree.{Tree}
use Rattle.ext_tree.specs.Unfolding.{unfolding_of}
use Rattle.ext_tree.specs.Refusal.{Refusal, Unknown, Loop, Duplicate, first_refusal, slots_met}
use Rattle.ext_tree.specs.Flat.{flat_order}
use Rattle.configuration.specs.declared.facet_def.FacetDef.{FacetDef}
use Rattle.configuration.specs.declared.field_def.FieldDef.{FieldDef}
use Rattle.configuration.specs.declared.node_def.NodeDef.{NodeDef}
use Rattle.configuration.specs.declared.config_error.ConfigError.{ConfigError}
use Rattle.configuration.specs.declared.config_error.ConfigError.TheVariants as config
use Rattle.configuration.specs.Vertices.{vertex_at}
use Rattle.configuration.specs.Present.{input_lists, field_nodes, compartments_of}
use Rattle.configuration.specs.Config.{ConfigView}
use Rattle.configuration.specs.Resolved.{pairs_of}
use Rattle.resolution.specs.Circles.{circle_of}

-- plain configuration: the base, the flat order, each facet's inputs, each field's node, and the set contents by
-- compartment (System Guide, Configuration)
pub record PlainConfig : Type 0 where
  pub base : List ℕ
  pub flat : List ℕ
  pub inputs : List (List ℕ)
  pub fields : List (Option ℕ)
  pub contents : List (ℕ × ℕ)

-- plain of: what a configuration has, but for its order of the dependencies, which may be any
pub record IsPlain (config : ConfigView) (plain : PlainConfig) : Type 0 where
  pub base_is : config.base ≡ plain.base
  pub flat_is : config.flat ≡ plain.flat
  pub inputs_are : config.inputs ≡ plain.inputs
  pub fields_are : config.fields ≡ plain.fields
  pub contents_are : (c : ℕ) → content_of config.contents c ≡ content_of plain.contents c

-- kept: a compartment has a content beside some contents, where it is given one
abbrev pub with_kept : List (ℕ × ℕ) → ℕ → Option ℕ → List (ℕ × ℕ)
with_kept kept c None = kept
with_kept kept c (Some node) = with_content kept c node

-- contents of some compartments, by compartment: the one ascending list in which each of them has what it had, and no
-- other has a content (Reference Manual, Compartment.reconfigure)
abbrev pub contents_of : List ℕ → List (ℕ × ℕ) → List (ℕ × ℕ)
contents_of [] contents = []
contents_of (c ∷ cs) contents = with_kept (contents_of cs contents) c (content_of contents c)

-- plain configuration of a base: its flat order; the inputs and the first nodes in it; the contents of the compartments
-- that were met
abbrev pub plain_config : Tree → List FacetDef → List FieldDef → List ℕ → PlainConfig
plain_config t facets fields base = record {
  base = base;
  flat = flat_order t base;
  inputs = input_lists t.nodes (length facets) (flat_order t base);
  fields = field_nodes t.nodes (length fields) (flat_order t base);
  contents = contents_of (compartments_of t.nodes (slots_met t (unfolding_of t base))) t.contents;
}

-- error of a refusal of the extension tree
abbrev pub error_of : Refusal → ConfigError
error_of (Unknown id) = config.UnknownExt id
error_of (Loop path) = config.CompartmentLoop path
error_of (Duplicate compartment first second) = config.DuplicateCompartment compartment first second

-- decided: a refusal of the extension tree comes first, then a circle of the dependencies
abbrev pub decided : ℕ → Option Refusal → Option (List ℕ) → PlainConfig → Result PlainConfig ConfigError
decided facets (Some refusal) circle plain = Err (error_of refusal)
decided facets None (Some members) plain = Err (config.Cycle (map (vertex_at facets) members))
decided facets None None plain = Ok plain

-- resolution of a base: the plain configuration; or the first refusal of the extension tree; or, where that passes, the
-- circle of the dependency pairs (System Guide, Configuration)
unfoldable pub resolved : {V : Type 0} → Tree → List FacetDef → List FieldDef → List (NodeDef V) → List ℕ → Result PlainConfig ConfigError
resolved t facets fields defs base =
    decided (length facets) (first_refusal t base) (circle_of (length facets + length fields) (pairs_of t facets fields defs base)) (plain_config t facets fields base)

-- alike: two trees with the same nodes and links, and the same content at each compartment
pub record AreAlike (t u : Tree) : Type 0 where
  pub nodes : t.nodes ≡ u.nodes
  pub links : t.links ≡ u.links
  pub contents : (c : ℕ) → content_of t.contents c ≡ content_of u.contents c
