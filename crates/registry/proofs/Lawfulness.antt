-- What is lawful stays so where something lawful is declared.
use Rattle.std.proofs.Common.{◌≡◌, ℕ, ◌+◌, ◌<◌, List, [], ◌∷◌, ◌++◌, true, false, Option, Some, None, length, slice_get, set, refl, ◌∙◌, arith, length-append}
use Rattle.std.specs.List.{AllByRecursion}
use Rattle.std.proofs.lemmas.List.{length-set}
use Rattle.std.proofs.lemmas.Option.{none-some}
use Rattle.configuration.specs.declared.facet_def.FacetDef.{FacetDef}
use Rattle.configuration.specs.declared.field_def.FieldDef.{FieldDef}
use Rattle.configuration.specs.declared.node_def.NodeDef.{NodeDef}
use Rattle.configuration.specs.Present.{field_in}
use Rattle.ext_tree.specs.declared.node.Node.{Node}
use Rattle.ext_tree.specs.declared.node.Node.TheVariants as nodes
use Rattle.ext_tree.specs.Tree.{IsOlder, linked, listed}
use Rattle.values.specs.declared.val.Val.{Val}
use Rattle.values.specs.Rules.{Rules}
use Rattle.values.specs.Declarations.{Declarations, is_placed, with_compartment, with_effect, with_facet, with_field, with_node, with_pair, max_count}
use Rattle.values.specs.Lawful.{AreKnown, IsDefined, IsLawful, IsLawfulFacet, IsLawfulField, IsMap}
use Rattle.registry.proofs.Lists.{All-map, all-pushed, at-pushed, both-pushed, get-kept, get_or-default}
use Rattle.registry.proofs.Linking.{enabled-kept, facet-known, listed-pushed, node-pushed, provided-kept}
use Rattle.registry.proofs.Pairs.{CanPair, pairs-effect, pairs-pair}
use Rattle.registry.proofs.Widening.{Widens, defined-widens, field-widens}

-- one more
one-more : {X : Type 0} (xs : List X) (x : X) → length (xs ++ x ∷ []) ≡ length xs + 1
one-more xs x = length-append xs (x ∷ [])

module _ (rules : Rules) (d : Declarations) (h : IsLawful rules d) where
  facet-widens : (def : FacetDef) (enables : List ℕ) → Widens d (with_facet d def enables)
  facet-widens def enables = record {
    facets = λ i x e. get-kept d.facets (def ∷ []) i x e;
    fields = λ i x e. e;
    facet_count = omega (arith, one-more d.facets def);
    field_count = omega arith;
    effects = omega arith;
    compartments = omega arith;
  }

  facet-older : (def : FacetDef) (enables : List ℕ) (n : ℕ) (o : Option Node) → slice_get d.nodes n ≡ o → (facet : ℕ) → o ≡ Some (nodes.Input facet) → facet < length d.links.enabled
  facet-older def enables n o e facet q =
      let k : facet < length d.facets = facet-known rules d facet (slice_get d.node_defs n) (h.nodes n (nodes.Input facet) (e ∙ q)) in
      omega (arith, k, h.aligned.enabled)

  pub lawful-facet : (def : FacetDef) (enables : List ℕ) → IsLawfulFacet rules def → AllByRecursion (IsOlder (length d.nodes)) enables → length d.facets < max_count → IsLawful rules (with_facet d def enables)
  lawful-facet def enables f k r =
      let new : Declarations = with_facet d def enables in
      let w : Widens d new = facet-widens def enables in
      record {
        facets = all-pushed (IsLawfulFacet rules) d.facets def h.facets f;
        fields = λ i x e. field-widens w rules x (h.fields i x e);
        nodes = λ n node e. defined-widens w rules node (slice_get d.node_defs n) (h.nodes n node e);
        maps = h.maps;
        pairs = h.pairs;
        aligned = record {
          node_defs = h.aligned.node_defs;
          enabled = omega (arith, one-more d.facets def, one-more d.links.enabled enables, h.aligned.enabled);
          provided = h.aligned.provided;
          placed = h.aligned.placed;
          pairs = h.aligned.pairs;
        };
        linked = record {
          older = λ n l. enabled-kept d.links enables (AllByRecursion (IsOlder n)) (slice_get d.nodes n) (facet-older def enables n (slice_get d.nodes n) refl) (h.linked.older n l);
          enabled = listed-pushed (AllByRecursion (IsOlder (length d.nodes))) d.links.enabled enables tt h.linked.enabled k;
          provided = h.linked.provided;
          placed = h.linked.placed;
        };
        within = record {
          facets = omega (arith, r, one-more d.facets def);
          fields = h.within.fields;
          nodes = h.within.nodes;
          effects = h.within.effects;
          compartments = h.within.compartments;
        };
      }

  field-wider : (def : FieldDef) → Widens d (with_field d def)
  field-wider def = record {
    facets = λ i x e. e;
    fields = λ i x e. get-kept d.fields (def ∷ []) i x e;
    facet_count = omega arith;
    field_count = omega (arith, one-more d.fields def);
    effects = omega arith;
    compartments = omega arith;
  }

  pub lawful-field : (def : FieldDef) → IsLawfulField rules d def → length d.fields < max_count → IsLawful rules (with_field d def)
  lawful-field def f r =
      let new : Declarations = with_field d def in
      let w : Widens d new = field-wider def in
      record {
        facets = h.facets;
        fields = all-pushed (IsLawfulField rules new) d.fields def (λ i x e. field-widens w rules x (h.fields i x e)) (field-widens w rules def f);
        nodes = λ n node e. defined-widens w rules node (slice_get d.node_defs n) (h.nodes n node e);
        maps = h.maps;
        pairs = h.pairs;
        aligned = record {
          node_defs = h.aligned.node_defs;
          enabled = h.aligned.enabled;
          provided = omega (arith, one-more d.fields def, one-more d.links.provided [], h.aligned.provided);
          placed = omega (arith, one-more d.fields def, one-more d.placed false, h.aligned.placed);
          pairs = h.aligned.pairs;
        };
        linked = record {
          older = λ n l. provided-kept d.links (AllByRecursion (IsOlder n)) (slice_get d.nodes n) (h.linked.older n l);
          enabled = h.linked.enabled;
          provided = listed-pushed (AllByRecursion (IsOlder (length d.nodes))) d.links.provided [] tt h.linked.provided tt;
          placed = λ n field e. get_or-default d.placed false field ∙ h.linked.placed n field e;
        };
        within = record {
          facets = h.within.facets;
          fields = omega (arith, r, one-more d.fields def);
          nodes = h.within.nodes;
          effects = h.within.effects;
          compartments = h.within.compartments;
        };
      }

  node-wider : (node : Node) (def : NodeDef Val) → Widens d (with_node d node def)
  node-wider node def = record {
    facets = λ i x e. e;
    fields = λ i x e. e;
    facet_count = omega arith;
    field_count = omega arith;
    effects = omega arith;
    compartments = omega arith;
  }

  older-still : (node : Node) (lists : List (List ℕ)) → AreKnown d lists → (i : ℕ) → AllByRecursion (IsOlder (length (d.nodes ++ node ∷ []))) (listed lists i)
  older-still node lists k i = All-map (IsOlder (length d.nodes)) (IsOlder (length (d.nodes ++ node ∷ []))) (λ m l. omega (arith, l, one-more d.nodes node)) (listed lists i) (k i)

  pub lawful-node : (node : Node) (def : NodeDef Val) → IsDefined rules d node (Some def) → AllByRecursion (IsOlder (length d.nodes)) (linked d.links (Some node)) → ((field : ℕ) → field_in (Some node) ≡ Some field → is_placed d field ≡ true) → length d.nodes < max_count → IsLawful rules (with_node d node def)
  lawful-node node def f k p r =
      let new : Declarations = with_node d node def in
      let w : Widens d new = node-wider node def in
      record {
        facets = h.facets;
        fields = λ i x e. field-widens w rules x (h.fields i x e);
        nodes = both-pushed (IsDefined rules new) d.nodes d.node_defs node def h.aligned.node_defs (λ n x e. defined-widens w rules x (slice_get d.node_defs n) (h.nodes n x e)) (defined-widens w rules node (Some def) f);
        maps = h.maps;
        pairs = h.pairs;
        aligned = record {
          node_defs = omega (arith, one-more d.nodes node, one-more d.node_defs def, h.aligned.node_defs);
          enabled = h.aligned.enabled;
          provided = h.aligned.provided;
          placed = h.aligned.placed;
          pairs = h.aligned.pairs;
        };
        linked = record {
          older = at-pushed (λ n o. AllByRecursion (IsOlder n) (linked d.links o)) d.nodes node h.linked.older k;
          enabled = older-still node d.links.enabled h.linked.enabled;
          provided = older-still node d.links.provided h.linked.provided;
          placed = node-pushed (λ o. (field : ℕ) → field_in o ≡ Some field → is_placed d field ≡ true) d.nodes node h.linked.placed p (λ field e. absurd (none-some field e));
        };
        within = record {
          facets = h.within.facets;
          fields = h.within.fields;
          nodes = omega (arith, r, one-more d.nodes node);
          effects = h.within.effects;
          compartments = h.within.compartments;
        };
      }

  effect-wider : (map : Option ℕ) → Widens d (with_effect d map)
  effect-wider map = record {
    facets = λ i x e. e;
    fields = λ i x e. e;
    facet_count = omega arith;
    field_count = omega arith;
    effects = omega (arith, one-more d.maps map);
    compartments = omega arith;
  }

  pub lawful-effect : (map : Option ℕ) → IsMap rules map → length d.maps < max_count → IsLawful rules (with_effect d map)
  lawful-effect map f r =
      let new : Declarations = with_effect d map in
      let w : Widens d new = effect-wider map in
      record {
        facets = h.facets;
        fields = λ i x e. field-widens w rules x (h.fields i x e);
        nodes = λ n node e. defined-widens w rules node (slice_get d.node_defs n) (h.nodes n node e);
        maps = all-pushed (IsMap rules) d.maps map h.maps f;
        pairs = pairs-effect d.maps d.pairs map h.aligned.pairs h.pairs;
        aligned = record {
          node_defs = h.aligned.node_defs;
          enabled = h.aligned.enabled;
          provided = h.aligned.provided;
          placed = h.aligned.placed;
          pairs = omega (arith, one-more d.maps map, one-more d.pairs None, h.aligned.pairs);
        };
        linked = record { older = h.linked.older; enabled = h.linked.enabled; provided = h.linked.provided; placed = h.linked.placed };
        within = record {
          facets = h.within.facets;
          fields = h.within.fields;
          nodes = h.within.nodes;
          effects = omega (arith, r, one-more d.maps map);
          compartments = h.within.compartments;
        };
      }

  compartment-wider : Widens d (with_compartment d)
  compartment-wider = record {
    facets = λ i x e. e;
    fields = λ i x e. e;
    facet_count = omega arith;
    field_count = omega arith;
    effects = omega arith;
    compartments = omega arith;
  }

  pub lawful-compartment : d.compartments < max_count → IsLawful rules (with_compartment d)
  lawful-compartment r =
      let w : Widens d (with_compartment d) = compartment-wider in
      record {
        facets = h.facets;
        fields = λ i x e. field-widens w rules x (h.fields i x e);
        nodes = λ n node e. defined-widens w rules node (slice_get d.node_defs n) (h.nodes n node e);
        maps = h.maps;
        pairs = h.pairs;
        aligned = record { node_defs = h.aligned.node_defs; enabled = h.aligned.enabled; provided = h.aligned.provided; placed = h.aligned.placed; pairs = h.aligned.pairs };
        linked = record { older = h.linked.older; enabled = h.linked.enabled; provided = h.linked.provided; placed = h.linked.placed };
        within = record {
          facets = h.within.facets;
          fields = h.within.fields;
          nodes = h.within.nodes;
          effects = h.within.effects;
          compartments = omega (arith, r);
        };
      }

  pair-wider : (effect back : ℕ) → Widens d (with_pair d effect back)
  pair-wider effect back = record {
    facets = λ i x e. e;
    fields = λ i x e. e;
    facet_count = omega arith;
    field_count = omega arith;
    effects = omega arith;
    compartments = omega arith;
  }

  pub lawful-pair : (effect back : ℕ) → CanPair d.maps d.pairs effect back → IsLawful rules (with_pair d effect back)
  lawful-pair effect back can =
      let w : Widens d (with_pair d effect back) = pair-wider effect back in
      record {
        facets = h.facets;
        fields = λ i x e. field-widens w rules x (h.fields i x e);
        nodes = λ n node e. defined-widens w rules node (slice_get d.node_defs n) (h.nodes n node e);
        maps = h.maps;
        pairs = pairs-pair d.maps d.pairs effect back can h.aligned.pairs h.pairs;
        aligned = record {
          node_defs = h.aligned.node_defs;
          enabled = h.aligned.enabled;
          provided = h.aligned.provided;
          placed = h.aligned.placed;
          pairs = length-set (set d.pairs effect (Some back)) back (Some effect) ∙ (length-set d.pairs effect (Some back) ∙ h.aligned.pairs);
        };
        linked = record { older = h.linked.older; enabled = h.linked.enabled; provided = h.linked.provided; placed = h.linked.placed };
        within = record { facets = h.within.facets; fields = h.within.fields; nodes = h.within.nodes; effects = h.within.effects; compartments = h.within.compartments };
      }
