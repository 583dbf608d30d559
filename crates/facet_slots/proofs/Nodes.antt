-- Lists of input nodes are the same where their ids are; and what is kept of no node.
use Rattle.std.proofs.Common.{◌≡◌, ◌<◌, ℕ, List, [], ◌∷◌, Bool, ◌&&◌, None, length, eqb, map, refl, ap, arith}
use lib.Pointwise.{pointwise}
use Rattle.configuration.specs.declared.node_def.NodeDef.{NodeDef}
use Rattle.values.specs.declared.val.Val.{Val}
use Rattle.facet_slots.specs.Setups.{InputNode, input_node}
use Rattle.facet_slots.specs.Flags.{same_nodes}
use Rattle.facet_slots.specs.Nexts.{kept_outputs}

pub same_nodes-is : (was is : List (NodeDef Val)) (xs ys : List ℕ) → pointwise eqb xs ys ≡ same_nodes (map (input_node was) xs) (map (input_node is) ys)
same_nodes-is was is [] [] = refl
same_nodes-is was is [] (y ∷ ys) = refl
same_nodes-is was is (x ∷ xs) [] = refl
same_nodes-is was is (x ∷ xs) (y ∷ ys) = ap (λ (b : Bool). eqb x y && b) (same_nodes-is was is xs ys)

pub kept-none : (n : ℕ) (is : List InputNode) (ks : List (List Val)) → length ks < 1 → kept_outputs n is ks ≡ None
kept-none n [] ks h = refl
kept-none n (i ∷ is) [] h = refl
kept-none n (i ∷ is) (k ∷ ks) h = absurd (omega (arith, h))
