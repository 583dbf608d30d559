-- Trees with the same nodes and links, and the same content at each compartment, come to the same.
use Rattle.std.proofs.Common.{◌≡◌, ◌∙◌, ◌+◌, ◌++◌, ℕ, zero, suc, slice_get, List, [], ◌∷◌, cond, map, flat_map, length, Option, Some, None, refl, sym, ap}
use Rattle.std.specs.Option.{unwrap_or, option_or}
use Rattle.compartments.specs.Contents.{content_of, AreAscending}
use Rattle.ext_tree.specs.declared.node.Node.{Node}
use Rattle.ext_tree.specs.declared.node.Node.TheVariants.{Slot}
use Rattle.ext_tree.specs.Links.{LinkLists}
use Rattle.ext_tree.specs.Tree.{Tree, tree_of}
use Rattle.ext_tree.specs.Unfolding.{Occurrence, compartment_of, is_slot_of, stands_on, is_blocked, following_in, below, followed_by, unfolded, unfold_at, depth_of, root_at, unfolding_of}
use Rattle.ext_tree.specs.Refusal.{Refusal, Loop, duplicate, from_slot, first_met, refused_as, refused, meet, refusal_after, refusal, met_after, slots_met, ids_of, unknown, first_refusal}
use Rattle.ext_tree.specs.Flat.{sorted_order, leaves, flat_order}
use Rattle.configuration.specs.declared.facet_def.FacetDef.{FacetDef}
use Rattle.configuration.specs.declared.field_def.FieldDef.{FieldDef}
use Rattle.configuration.specs.declared.node_def.NodeDef.{NodeDef}
use Rattle.dep_graph.specs.declared.edge.Edge.{Edge}
use Rattle.configuration.specs.Present.{input_lists, field_nodes, compartments_of}
use Rattle.configuration.specs.Pairs.{pairs}
use Rattle.configuration.specs.Resolved.{pairs_of}
use Rattle.resolution.specs.Circles.{circle_of}
use Rattle.resolution.specs.Resolution.{PlainConfig, with_kept, contents_of, plain_config, decided, resolved, AreAlike}
use Rattle.resolution.proofs.Keeping.{same-contents}

flat-same : {X Y : Type 0} (f g : X → List Y) → ((x : X) → f x ≡ g x) → (xs : List X) → flat_map f xs ≡ flat_map g xs
flat-same f g h [] = refl
flat-same {Y = Y} f g h (x ∷ xs) = ap (λ (ys : List Y). ys ++ flat_map f xs) (h x) ∙ ap (λ (ys : List Y). g x ++ ys) (flat-same f g h xs)

module _ (nodes : List Node) (links : LinkLists) (old new : List (ℕ × ℕ)) (same : (c : ℕ) → content_of old c ≡ content_of new c) where
  abbrev t : Tree
  t = tree_of nodes old links

  abbrev u : Tree
  u = tree_of nodes new links

  -- what a node is followed by
  following-same : (o : Option Node) → following_in t o ≡ following_in u o
  following-same None = refl
  following-same (Some (Slot c content)) = ap (λ (o : Option ℕ). unwrap_or o content ∷ []) (same c)
  following-same (Some node) = refl

  unfolded-same : (depth : ℕ) (o : Occurrence) → unfolded t depth o ≡ unfolded u depth o
  unfolded-same zero o = refl
  unfolded-same (suc depth) o =
      ap (λ (ns : List ℕ). o ∷ flat_map (unfolded t depth) (cond (is_blocked t o.node o.path) [] (map (below t o) ns))) (following-same (slice_get nodes o.node))
      ∙ ap (λ (os : List Occurrence). o ∷ os) (flat-same (unfolded t depth) (unfolded u depth) (unfolded-same depth) (followed_by u o))

  pub unfolding-same : (roots : List ℕ) → unfolding_of t roots ≡ unfolding_of u roots
  unfolding-same roots = flat-same (unfold_at t) (unfold_at u) (unfolded-same (depth_of t)) (map root_at roots)

  pub flat-order-same : (roots : List ℕ) → flat_order t roots ≡ flat_order u roots
  flat-order-same roots = ap (λ (os : List Occurrence). sorted_order (leaves t os)) (unfolding-same roots)

  -- the slots that are met
  met-same : (met : List ℕ) (os : List Occurrence) → met_after t met os ≡ met_after u met os
  met-same met [] = refl
  met-same met (o ∷ os) = met-same (meet t met o.node) os

  pub slots-met-same : (roots : List ℕ) → slots_met t (unfolding_of t roots) ≡ slots_met u (unfolding_of u roots)
  slots-met-same roots = met-same [] (unfolding_of t roots) ∙ ap (slots_met u) (unfolding-same roots)

  -- why a walk is refused
  from-slot-same : (c : ℕ) (path : List ℕ) → from_slot t c path ≡ from_slot u c path
  from-slot-same c [] = refl
  from-slot-same c (s ∷ path) = ap (λ (ss : List ℕ). cond (is_slot_of u c s) (s ∷ path) ss) (from-slot-same c path)

  refused-same : (met : List ℕ) (n : ℕ) (path : List ℕ) (o : Option ℕ) → refused_as t met n path o ≡ refused_as u met n path o
  refused-same met n path None = refl
  refused-same met n path (Some c) = ap (λ (ss : List ℕ). refused_from ss) (from-slot-same c path)
    where
      refused_from : List ℕ → Option Refusal
      refused_from ss = cond (stands_on u path (Some c)) (Some (Loop (ss ++ n ∷ []))) (duplicate c n (first_met u c met))

  refusal-same : (met : List ℕ) (os : List Occurrence) → refusal_after t met os ≡ refusal_after u met os
  refusal-same met [] = refl
  refusal-same met (o ∷ os) =
      ap (λ (r : Option Refusal). option_or r (refusal_after t (meet t met o.node) os)) (refused-same met o.node o.path (compartment_of t o.node))
      ∙ ap (option_or (refused u met o)) (refusal-same (meet t met o.node) os)

  pub walk-same : (roots : List ℕ) → refusal t (unfolding_of t roots) ≡ refusal u (unfolding_of u roots)
  walk-same roots = refusal-same [] (unfolding_of t roots) ∙ ap (refusal u) (unfolding-same roots)

  -- and, where the unknown ids are the same, the first refusal
  pub first-refusal-same : (roots : List ℕ) → unknown (length nodes) (ids_of t roots) ≡ unknown (length nodes) (ids_of u roots) → first_refusal t roots ≡ first_refusal u roots
  first-refusal-same roots e =
      ap (λ (r : Option Refusal). option_or r (refusal t (unfolding_of t roots))) e ∙ ap (option_or (unknown (length nodes) (ids_of u roots))) (walk-same roots)

  -- the plain configuration
  contents-same : (cs : List ℕ) → contents_of cs old ≡ contents_of cs new
  contents-same [] = refl
  contents-same (c ∷ cs) =
      ap (λ (kept : List (ℕ × ℕ)). with_kept kept c (content_of old c)) (contents-same cs) ∙ ap (with_kept (contents_of cs new) c) (same c)

  module _ {V : Type 0} (facets : List FacetDef) (fields : List FieldDef) (defs : List (NodeDef V)) (base : List ℕ) where
    plain-from : List ℕ → List (ℕ × ℕ) → PlainConfig
    plain-from flat contents = record {
      base = base;
      flat = flat;
      inputs = input_lists nodes (length facets) flat;
      fields = field_nodes nodes (length fields) flat;
      contents = contents;
    }

    pub plain-same : plain_config t facets fields base ≡ plain_config u facets fields base
    unfolding plain-from
    plain-same =
        ap (λ (flat : List ℕ). plain-from flat (contents_of (compartments_of nodes (slots_met t (unfolding_of t base))) old)) (flat-order-same base)
        ∙ ap (plain-from (flat_order u base))
        (contents-same (compartments_of nodes (slots_met t (unfolding_of t base))) ∙ ap (λ (met : List ℕ). contents_of (compartments_of nodes met) new) (slots-met-same base))

    pub pairs-same : pairs_of t facets fields defs base ≡ pairs_of u facets fields defs base
    pairs-same = ap (λ (flat : List ℕ). pairs facets fields defs (input_lists nodes (length facets) flat) (field_nodes nodes (length fields) flat)) (flat-order-same base)

    resolved-here : unknown (length nodes) (ids_of t base) ≡ unknown (length nodes) (ids_of u base) → resolved t facets fields defs base ≡ resolved u facets fields defs base
    unfolding resolved
    resolved-here e =
        ap (λ (r : Option Refusal). decided (length facets) r (circle_of (length facets + length fields) (pairs_of t facets fields defs base)) (plain_config t facets fields base)) (first-refusal-same base e)
        ∙ ap (λ (es : List Edge). decided (length facets) (first_refusal u base) (circle_of (length facets + length fields) es) (plain_config t facets fields base)) pairs-same
        ∙ ap (decided (length facets) (first_refusal u base) (circle_of (length facets + length fields) (pairs_of u facets fields defs base))) plain-same

-- where the unknown ids are the same too, they come to the same
pub resolved-same : {V : Type 0} (t u : Tree) (facets : List FacetDef) (fields : List FieldDef) (defs : List (NodeDef V)) (base : List ℕ)
    → AreAlike t u → unknown (length t.nodes) (ids_of t base) ≡ unknown (length u.nodes) (ids_of u base) → resolved t facets fields defs base ≡ resolved u facets fields defs base
resolved-same t u facets fields defs base alike e =
    resolved-here t.nodes t.links t.contents u.contents alike.contents facets fields defs base (e ∙ ap (λ (ns : List Node). unknown (length ns) (ids_of u base)) (sym alike.nodes))
    ∙ ap (λ (ns : List Node). resolved (tree_of ns u.contents t.links) facets fields defs base) alike.nodes
    ∙ ap (λ (ls : LinkLists). resolved (tree_of u.nodes u.contents ls) facets fields defs base) alike.links

-- where the contents ascend, as those of a map do, they are one tree
pub one-tree : (t u : Tree) → AreAlike t u → AreAscending t.contents → AreAscending u.contents → t ≡ u
one-tree t u alike s r =
    ap (λ (ns : List Node). tree_of ns t.contents t.links) alike.nodes
    ∙ ap (λ (cs : List (ℕ × ℕ)). tree_of u.nodes cs t.links) (same-contents t.contents u.contents s r alike.contents)
    ∙ ap (tree_of u.nodes u.contents) alike.links

pub resolved-alike : {V : Type 0} (t u : Tree) (facets : List FacetDef) (fields : List FieldDef) (defs : List (NodeDef V)) (base : List ℕ)
    → AreAlike t u → AreAscending t.contents → AreAscending u.contents → resolved t facets fields defs base ≡ resolved u facets fields defs base
resolved-alike t u facets fields defs base alike s r = ap (λ (x : Tree). resolved x facets fields defs base) (one-tree t u alike s r)
