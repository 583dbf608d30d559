use Rattle.std.proofs.Common.{◌≡◌, ◌∙◌, ◌+◌, ℕ, List, Option, None, All, length, map, ap, subst}
use Rattle.compartments.specs.Contents.{content_of, kept_content}
use Rattle.dep_graph.specs.declared.edge.Edge.{Edge}
use Rattle.dep_graph.specs.Order.{IsEdge}
use Rattle.ext_tree.specs.declared.node.Node.{Node}
use Rattle.ext_tree.specs.Tree.{Tree}
use Rattle.ext_tree.specs.Refusal.{first_refusal}
use Rattle.configuration.specs.declared.vertex.Vertex.{Vertex}
use Rattle.configuration.specs.declared.facet_def.FacetDef.{FacetDef}
use Rattle.configuration.specs.declared.field_def.FieldDef.{FieldDef}
use Rattle.configuration.specs.declared.node_def.NodeDef.{NodeDef}
use Rattle.configuration.specs.declared.config_error.ConfigError.{ConfigError}
use Rattle.configuration.specs.declared.config_error.ConfigError.TheVariants as config
use Rattle.configuration.specs.Vertices.{AreOrdered, AreCircle}
use Rattle.std.specs.List.{range_with_len}
use Rattle.configuration.specs.Present.{input_lists, field_nodes, compartments_of}
use Rattle.configuration.specs.Pairs.{pairs}
use Rattle.configuration.specs.Causes.{IsOrderCause}
use Rattle.ext_tree.specs.Flat.{flat_order}
use Rattle.configuration.specs.Resolved.{pairs_of, IsCause}
use Rattle.configuration.proofs.Placing.{numbers-length}
use Rattle.configuration.proofs.Pairing.{pairs-within}

pub as-many : {X : Type 0} (g : ℕ → X) (lent items : List X) (n m : ℕ) → lent ≡ items → items ≡ map g (range_with_len 0 n) → n ≡ m → length lent ≡ m
as-many g lent items n m same is count = ap length same ∙ ap length is ∙ numbers-length g 0 n ∙ count

-- what was found over lent values is what the definition says
pub inputs-are : (nodes lent : List Node) (n m : ℕ) (read order whole : List ℕ) (inputs : List (List ℕ)) → lent ≡ nodes → n ≡ m → read ≡ order → order ≡ whole → inputs ≡ input_lists lent n read → inputs ≡ input_lists nodes m whole
inputs-are nodes lent n m read order whole inputs a b d e is =
    is ∙ ap (λ (ns : List Node). input_lists ns n read) a ∙ ap (λ (k : ℕ). input_lists nodes k read) b ∙ ap (input_lists nodes m) (d ∙ e)

pub fields-are : (nodes lent : List Node) (n m : ℕ) (read order whole : List ℕ) (found : List (Option ℕ)) → lent ≡ nodes → n ≡ m → read ≡ order → order ≡ whole → found ≡ field_nodes lent n read → found ≡ field_nodes nodes m whole
fields-are nodes lent n m read order whole found a b d e is =
    is ∙ ap (λ (ns : List Node). field_nodes ns n read) a ∙ ap (λ (k : ℕ). field_nodes nodes k read) b ∙ ap (field_nodes nodes m) (d ∙ e)

module _ {V : Type 0} (t : Tree) (facets : List FacetDef) (fields : List FieldDef) (node_defs : List (NodeDef V)) (base : List ℕ) where
  pub edges-are : (es : List Edge) (lent inputs : List (List ℕ)) (read nodes : List (Option ℕ)) → lent ≡ inputs → read ≡ nodes → inputs ≡ input_lists t.nodes (length facets) (flat_order t base) → nodes ≡ field_nodes t.nodes (length fields) (flat_order t base)
      → es ≡ pairs facets fields node_defs lent read → es ≡ pairs_of t facets fields node_defs base
  edges-are es lent inputs read nodes a b d e is = is ∙ ap (λ (xs : List (List ℕ)). pairs facets fields node_defs xs read) (a ∙ d) ∙ ap (pairs facets fields node_defs (input_lists t.nodes (length facets) (flat_order t base))) (b ∙ e)

  -- an order of the edges is one of the dependency pairs
  pub order-is : (k count : ℕ) (es : List Edge) (order : List Vertex) → k ≡ length facets → count ≡ length facets + length fields → es ≡ pairs_of t facets fields node_defs base
      → AreOrdered k count es order → AreOrdered (length facets) (length facets + length fields) (pairs_of t facets fields node_defs base) order
  order-is k count es order a b d h =
      subst (λ (x : ℕ). AreOrdered x (length facets + length fields) (pairs_of t facets fields node_defs base) order) a
      (subst (λ (x : ℕ). AreOrdered k x (pairs_of t facets fields node_defs base) order) b (subst (λ (xs : List Edge). AreOrdered k count xs order) d h))

  circle-is : (k count : ℕ) (es : List Edge) (members : List Vertex) → k ≡ length facets → count ≡ length facets + length fields → es ≡ pairs_of t facets fields node_defs base
      → AreCircle k count es members → AreCircle (length facets) (length facets + length fields) (pairs_of t facets fields node_defs base) members
  circle-is k count es members a b d h =
      subst (λ (x : ℕ). AreCircle x (length facets + length fields) (pairs_of t facets fields node_defs base) members) a
      (subst (λ (x : ℕ). AreCircle k x (pairs_of t facets fields node_defs base) members) b (subst (λ (xs : List Edge). AreCircle k count xs members) d h))

  -- and a circle of theirs
  pub cause-is : (k count : ℕ) (es : List Edge) (e : ConfigError) → k ≡ length facets → count ≡ length facets + length fields → es ≡ pairs_of t facets fields node_defs base → first_refusal t base ≡ None
      → IsOrderCause k count es e → IsCause t facets fields node_defs base e
  cause-is k count es config.NoMemory a b d passes h = tt
  cause-is k count es (config.UnknownExt id) a b d passes h = absurd h
  cause-is k count es (config.DuplicateCompartment compartment first second) a b d passes h = absurd h
  cause-is k count es (config.CompartmentLoop path) a b d passes h = absurd h
  cause-is k count es (config.Cycle members) a b d passes h = (passes, circle-is k count es members a b d h)

  pub edges-within : (count : ℕ) (es : List Edge) (inputs : List (List ℕ)) (nodes : List (Option ℕ)) → count ≡ length facets + length fields → length inputs ≡ length facets → length nodes ≡ length fields
      → es ≡ pairs facets fields node_defs inputs nodes → All (IsEdge count) es
  edges-within count es inputs nodes a b d is = rw (is, a) (pairs-within facets fields node_defs inputs nodes b d)

pub contents-are : (nodes lent : List Node) (contents kept : List (ℕ × ℕ)) (read compartments slots met whole : List ℕ) → lent ≡ nodes → read ≡ compartments → compartments ≡ compartments_of lent slots → slots ≡ met → met ≡ whole
    → ((c : ℕ) → content_of kept c ≡ kept_content read contents c) → (c : ℕ) → content_of kept c ≡ kept_content (compartments_of nodes whole) contents c
contents-are nodes lent contents kept read compartments slots met whole a b d e f h c =
    h c ∙ ap (λ (cs : List ℕ). kept_content cs contents c) (b ∙ d ∙ ap (λ (ns : List Node). compartments_of ns slots) a ∙ ap (compartments_of nodes) (e ∙ f))
