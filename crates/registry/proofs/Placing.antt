-- Placing a field: first its links and its mark change, then its node is added.
use Rattle.std.proofs.Common.{◌≡◌, ℕ, ◌<◌, List, [], Bool, true, false, Some, length, get_or, slice_get, set, sym, ◌∙◌, subst, arith}
use Rattle.std.specs.List.{AllByRecursion}
use Rattle.std.proofs.lemmas.List.{get_or-set_same, length-set}
use Rattle.std.proofs.lemmas.Option.{same_Some}
use Rattle.configuration.specs.declared.node_def.NodeDef.TheVariants as defs
use Rattle.configuration.specs.Present.{field_in}
use Rattle.ext_tree.specs.declared.node.Node.TheVariants as nodes
use Rattle.ext_tree.specs.Tree.{IsOlder, listed}
use Rattle.values.specs.Rules.{Rules}
use Rattle.values.specs.Declarations.{Declarations, is_placed, with_placed, max_count}
use Rattle.values.specs.Lawful.{IsLawful}
use Rattle.registry.proofs.Linking.{listed-set, mark-kept, provided-set}
use Rattle.registry.proofs.Lawfulness.{lawful-node}
use Rattle.registry.proofs.Widening.{Widens, defined-widens, field-widens}

true-false : (b : Bool) → b ≡ true → b ≡ false → ⊥
true-false true e q = absurd (grind (arith, q))
true-false false e q = absurd (grind (arith, e))

-- with what a field provides and its mark, without its node
abbrev marked : Declarations → ℕ → List ℕ → Declarations
marked d field provides = record d { links = record d.links { provided = set d.links.provided field provides }; placed = set d.placed field true }

module _ (rules : Rules) (d : Declarations) (h : IsLawful rules d) (field : ℕ) (provides : List ℕ) where
  marked-wider : Widens d (marked d field provides)
  marked-wider = record {
    facets = λ i x e. e;
    fields = λ i x e. e;
    facet_count = omega arith;
    field_count = omega arith;
    effects = omega arith;
    compartments = omega arith;
  }

  other : is_placed d field ≡ false → (n : ℕ) → field_in (slice_get d.nodes n) ≡ Some field → ⊥
  other u n e = true-false (is_placed d field) (h.linked.placed n field e) u

  lawful-marked : is_placed d field ≡ false → AllByRecursion (IsOlder (length d.nodes)) provides → IsLawful rules (marked d field provides)
  lawful-marked u k =
      let w : Widens d (marked d field provides) = marked-wider in
      record {
        facets = h.facets;
        fields = λ i x e. field-widens w rules x (h.fields i x e);
        nodes = λ n node e. defined-widens w rules node (slice_get d.node_defs n) (h.nodes n node e);
        maps = h.maps;
        pairs = h.pairs;
        aligned = record {
          node_defs = h.aligned.node_defs;
          enabled = h.aligned.enabled;
          provided = length-set d.links.provided field provides ∙ h.aligned.provided;
          placed = length-set d.placed field true ∙ h.aligned.placed;
          pairs = h.aligned.pairs;
        };
        linked = record {
          older = λ n l. provided-set d.links field provides (AllByRecursion (IsOlder n)) (slice_get d.nodes n) (other u n) (h.linked.older n l);
          enabled = h.linked.enabled;
          provided = listed-set (AllByRecursion (IsOlder (length d.nodes))) d.links.provided field provides h.linked.provided k;
          placed = λ n g e. mark-kept d.placed field g (h.linked.placed n g e);
        };
        within = record { facets = h.within.facets; fields = h.within.fields; nodes = h.within.nodes; effects = h.within.effects; compartments = h.within.compartments };
      }

  pub lawful-placed : field < length d.fields → is_placed d field ≡ false → AllByRecursion (IsOlder (length d.nodes)) provides → length d.nodes < max_count → IsLawful rules (with_placed d field provides)
  lawful-placed l u k r =
      let provided : listed (set d.links.provided field provides) field ≡ provides = get_or-set_same d.links.provided field provides [] (omega (arith, l, h.aligned.provided)) in
      let is_marked : get_or (set d.placed field true) field false ≡ true = get_or-set_same d.placed field true false (omega (arith, l, h.aligned.placed)) in
      lawful-node rules (marked d field provides) (lawful-marked u k) (nodes.Field field) defs.Field l (subst (AllByRecursion (IsOlder (length d.nodes))) (sym provided) k) (λ g e. subst (λ i. get_or (set d.placed field true) i false ≡ true) (same_Some field g e) is_marked) r
