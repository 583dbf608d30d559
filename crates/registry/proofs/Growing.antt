-- Each declaration makes a growth.
use Rattle.std.proofs.Common.{◌≡◌, ℕ, List, [], ◌∷◌, Bool, true, false, Option, refl, ◌∙◌, subst, arith}
use Rattle.std.proofs.lemmas.List.{get_or-set_other}
use Rattle.configuration.specs.declared.facet_def.FacetDef.{FacetDef}
use Rattle.configuration.specs.declared.field_def.FieldDef.{FieldDef}
use Rattle.configuration.specs.declared.node_def.NodeDef.{NodeDef}
use Rattle.configuration.specs.declared.node_def.NodeDef.TheVariants as defs
use Rattle.ext_tree.specs.declared.node.Node.{Node}
use Rattle.ext_tree.specs.declared.node.Node.TheVariants as nodes
use Rattle.values.specs.declared.val.Val.{Val}
use Rattle.values.specs.Declarations.{Declarations, is_placed, with_compartment, with_effect, with_facet, with_field, with_node, with_pair, with_placed}
use Rattle.values.specs.Growth.{IsGrowth}
use Rattle.registry.proofs.Lists.{get-kept, get_or-default}
use Rattle.registry.proofs.Linking.{mark-kept}
use Rattle.registry.proofs.Pairs.{CanPair, map-pushed, pairs-kept}

pub grows-same : (d : Declarations) → IsGrowth d d
grows-same d = record { facets = λ i x e. e; fields = λ i x e. e; nodes = λ i x e. e; node_defs = λ i x e. e; maps = λ i x e. e; pairs = λ x y e. e; enabled = λ i x e. e; placed = λ f e. e; provided = λ f e. refl; compartments = omega arith }

pub grows-facet : (d : Declarations) (def : FacetDef) (enables : List ℕ) → IsGrowth d (with_facet d def enables)
grows-facet d def enables = record { facets = λ i x e. get-kept d.facets (def ∷ []) i x e; fields = λ i x e. e; nodes = λ i x e. e; node_defs = λ i x e. e; maps = λ i x e. e; pairs = λ x y e. e; enabled = λ i x e. get-kept d.links.enabled (enables ∷ []) i x e; placed = λ f e. e; provided = λ f e. refl; compartments = omega arith }

pub grows-field : (d : Declarations) (def : FieldDef) → IsGrowth d (with_field d def)
grows-field d def = record { facets = λ i x e. e; fields = λ i x e. get-kept d.fields (def ∷ []) i x e; nodes = λ i x e. e; node_defs = λ i x e. e; maps = λ i x e. e; pairs = λ x y e. e; enabled = λ i x e. e; placed = λ f e. get_or-default d.placed false f ∙ e; provided = λ f e. get_or-default d.links.provided [] f; compartments = omega arith }

pub grows-node : (d : Declarations) (node : Node) (def : NodeDef Val) → IsGrowth d (with_node d node def)
grows-node d node def = record { facets = λ i x e. e; fields = λ i x e. e; nodes = λ i x e. get-kept d.nodes (node ∷ []) i x e; node_defs = λ i x e. get-kept d.node_defs (def ∷ []) i x e; maps = λ i x e. e; pairs = λ x y e. e; enabled = λ i x e. e; placed = λ f e. e; provided = λ f e. refl; compartments = omega arith }

true-false : (b : Bool) → b ≡ true → b ≡ false → ⊥
true-false true e q = absurd (grind (arith, q))
true-false false e q = absurd (grind (arith, e))

pub grows-placed : (d : Declarations) (field : ℕ) (provides : List ℕ) → is_placed d field ≡ false → IsGrowth d (with_placed d field provides)
grows-placed d field provides u = record { facets = λ i x e. e; fields = λ i x e. e; nodes = λ i x e. get-kept d.nodes (nodes.Field field ∷ []) i x e; node_defs = λ i x e. get-kept d.node_defs (defs.Field ∷ []) i x e; maps = λ i x e. e; pairs = λ x y e. e; enabled = λ i x e. e; placed = λ f e. mark-kept d.placed field f e; provided = λ f e. get_or-set_other d.links.provided field f provides [] (λ q. true-false (is_placed d field) (subst (λ i. is_placed d i ≡ true) q e) u); compartments = omega arith }

pub grows-effect : (d : Declarations) (map : Option ℕ) → IsGrowth d (with_effect d map)
grows-effect d map = record { facets = λ i x e. e; fields = λ i x e. e; nodes = λ i x e. e; node_defs = λ i x e. e; maps = λ i x e. get-kept d.maps (map ∷ []) i x e; pairs = λ x y e. map-pushed d.pairs x ∙ e; enabled = λ i x e. e; placed = λ f e. e; provided = λ f e. refl; compartments = omega arith }

pub grows-compartment : (d : Declarations) → IsGrowth d (with_compartment d)
grows-compartment d = record { facets = λ i x e. e; fields = λ i x e. e; nodes = λ i x e. e; node_defs = λ i x e. e; maps = λ i x e. e; pairs = λ x y e. e; enabled = λ i x e. e; placed = λ f e. e; provided = λ f e. refl; compartments = omega arith }

pub grows-pair : (d : Declarations) (effect back : ℕ) → CanPair d.maps d.pairs effect back → IsGrowth d (with_pair d effect back)
grows-pair d effect back can = record { facets = λ i x e. e; fields = λ i x e. e; nodes = λ i x e. e; node_defs = λ i x e. e; maps = λ i x e. e; pairs = pairs-kept d.maps d.pairs effect back can; enabled = λ i x e. e; placed = λ f e. e; provided = λ f e. refl; compartments = omega arith }
