-- What a configuration is, and why there is none, have the function's answer.
use Rattle.std.proofs.Common.{◌≡◌, ◌∙◌, ◌+◌, ℕ, List, Option, Some, None, Result, Ok, Err, length, map, refl, sym, ap, subst}
use Rattle.std.specs.List.{AllByRecursion}
use Rattle.compartments.specs.Contents.{AreAscending}
use Rattle.dep_graph.specs.Order.{IsEdge, edge}
use Rattle.dep_graph.proofs.Members.{all-recursion}
use Rattle.ext_tree.specs.Tree.{Tree}
use Rattle.ext_tree.specs.Unfolding.{unfolding_of}
use Rattle.ext_tree.specs.Refusal.{Refusal, Unknown, Loop, Duplicate, first_refusal, slots_met}
use Rattle.ext_tree.specs.Flat.{flat_order}
use Rattle.configuration.specs.declared.facet_def.FacetDef.{FacetDef}
use Rattle.configuration.specs.declared.field_def.FieldDef.{FieldDef}
use Rattle.configuration.specs.declared.node_def.NodeDef.{NodeDef}
use Rattle.configuration.specs.declared.vertex.Vertex.{Vertex}
use Rattle.configuration.specs.declared.config_error.ConfigError.{ConfigError}
use Rattle.configuration.specs.declared.config_error.ConfigError.TheVariants as config
use Rattle.configuration.specs.Vertices.{vertex_at, AreCircle}
use Rattle.configuration.specs.Present.{input_lists, field_nodes, inputs_of, node_of_field, compartments_of}
use Rattle.configuration.specs.Config.{ConfigView}
use Rattle.configuration.specs.Resolved.{pairs_of, IsConfig, IsCause}
use Rattle.configuration.proofs.Placing.{numbers-length}
use Rattle.configuration.proofs.Pairing.{pairs-within}
use Rattle.resolution.specs.Circles.{circle_of}
use Rattle.resolution.specs.Resolution.{PlainConfig, IsPlain, plain_config, error_of, decided, resolved}
use Rattle.resolution.proofs.Circling.{no-circle, the-circle}
use Rattle.resolution.proofs.Keeping.{contents-kept, contents-ascending, same-contents}

-- what was decided to be a configuration is the plain one
err-ok : (x : ConfigError) (y : PlainConfig) (r : Result PlainConfig ConfigError) → r ≡ Err x → r ≡ Ok y → ⊥
err-ok x y r a b = cc

decided-plain : (facets : ℕ) (r : Option Refusal) (circle : Option (List ℕ)) (plain found : PlainConfig) → decided facets r circle plain ≡ Ok found → plain ≡ found
decided-plain facets (Some r) circle plain found e = absurd (err-ok (error_of r) found (decided facets (Some r) circle plain) refl e)
decided-plain facets None (Some members) plain found e = absurd (err-ok (config.Cycle (map (vertex_at facets) members)) found (decided facets None (Some members) plain) refl e)
decided-plain facets None None plain found e = cc

module _ {V : Type 0} (t : Tree) (facets : List FacetDef) (fields : List FieldDef) (defs : List (NodeDef V)) (base : List ℕ) where
  -- the dependency pairs are of vertices
  pairs-are-within : AllByRecursion (IsEdge (length facets + length fields)) (pairs_of t facets fields defs base)
  pairs-are-within =
      all-recursion (IsEdge (length facets + length fields)) (edge 0 0) (pairs_of t facets fields defs base)
      (pairs-within facets fields defs (input_lists t.nodes (length facets) (flat_order t base)) (field_nodes t.nodes (length fields) (flat_order t base))
      (numbers-length (λ (facet : ℕ). inputs_of t.nodes facet (flat_order t base)) 0 (length facets))
      (numbers-length (λ (field : ℕ). node_of_field t.nodes field (flat_order t base)) 0 (length fields)))

  -- a configuration is the plain one of its base
  pub is-plain : (config : ConfigView) → IsConfig t facets fields defs base config → IsPlain config (plain_config t facets fields base)
  is-plain config c = record {
    base_is = c.base_is;
    flat_is = c.flat_is;
    inputs_are = c.inputs_are;
    fields_are = c.fields_are;
    contents_are = λ k. c.contents_are k ∙ sym (contents-kept (compartments_of t.nodes (slots_met t (unfolding_of t base))) t.contents k);
  }

  -- and so the function answers
  pub resolves : (config : ConfigView) → IsConfig t facets fields defs base config → resolved t facets fields defs base ≡ Ok (plain_config t facets fields base)
  unfolding resolved
  resolves config c =
      rw (c.passes, no-circle (length facets + length fields) (pairs_of t facets fields defs base) pairs-are-within c.order_is.numbers c.order_is.is_order) refl

  -- of a refusal the error
  refused-as : (r : Refusal) → first_refusal t base ≡ Some r → resolved t facets fields defs base ≡ Err (error_of r)
  unfolding resolved
  refused-as r e = rw e refl

  circles : (members : List Vertex) → first_refusal t base ≡ None → AreCircle (length facets) (length facets + length fields) (pairs_of t facets fields defs base) members
      → resolved t facets fields defs base ≡ Err (config.Cycle members)
  unfolding resolved
  circles members passes c =
      rw (passes, the-circle (length facets + length fields) (pairs_of t facets fields defs base) pairs-are-within c.numbers c.is_circle)
      (ap (λ (ms : List Vertex). Err (config.Cycle ms)) (sym c.vertices_are))

  -- why there is no configuration is the function's error, unless memory ran out
  pub refuses : (error : ConfigError) → IsCause t facets fields defs base error → (error ≡ config.NoMemory → ⊥) → resolved t facets fields defs base ≡ Err error
  refuses config.NoMemory cause other = absurd (other refl)
  refuses (config.UnknownExt id) cause other = refused-as (Unknown id) cause
  refuses (config.DuplicateCompartment compartment first second) cause other = refused-as (Duplicate compartment first second) cause
  refuses (config.CompartmentLoop path) cause other = refused-as (Loop path) cause
  refuses (config.Cycle members) cause other = circles members cause.0 cause.1

  -- what the function answers is the plain configuration of the base, with contents that ascend
  pub plain-is : (plain : PlainConfig) → resolved t facets fields defs base ≡ Ok plain → plain ≡ plain_config t facets fields base
  unfolding resolved
  plain-is plain e =
      sym (decided-plain (length facets) (first_refusal t base) (circle_of (length facets + length fields) (pairs_of t facets fields defs base)) (plain_config t facets fields base) plain e)

  pub plain-ascending : (plain : PlainConfig) → resolved t facets fields defs base ≡ Ok plain → AreAscending plain.contents
  plain-ascending plain e =
      subst (λ (p : PlainConfig). AreAscending p.contents) (sym (plain-is plain e)) (contents-ascending (compartments_of t.nodes (slots_met t (unfolding_of t base))) t.contents)

-- where the contents of a configuration ascend, they are those of the plain one
pub plain-contents : (config : ConfigView) (plain : PlainConfig) → IsPlain config plain → AreAscending config.contents → AreAscending plain.contents → config.contents ≡ plain.contents
plain-contents config plain p s r = same-contents config.contents plain.contents s r p.contents_are
