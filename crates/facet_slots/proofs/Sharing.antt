-- A facet that has the same nodes, of whose inputs none is flagged, keeps what they gave and its value.
use Rattle.std.proofs.Common.{◌≡◌, ◌∙◌, ◌⊎◌, inl, inr, ℕ, List, [], ◌∷◌, Bool, true, false, not, ◌&&◌, cond, eqb, Option, Some, Result, Ok, Err, IfOk, IsSomeAnd, map, refl, sym, ap, subst, ⊎_elim}
use Rattle.std.specs.Option.{option_map}
use Rattle.std.specs.List.{AllByRecursion, list_any}
use Rattle.std.proofs.lemmas.Bool.Decides.{Decides-eqb}
use Rattle.id_lists.specs.Members.{In}
use Rattle.configuration.specs.declared.facet_def.FacetDef.{FacetDef}
use Rattle.configuration.specs.declared.node_def.NodeDef.{NodeDef}
use Rattle.values.specs.declared.val.Val.{Val}
use Rattle.values.specs.Rules.{Rules}
use Rattle.facet_slots.specs.Setups.{InputNode, PresentFacet, input_node}
use Rattle.facet_slots.specs.Scenes.{SceneView, Values}
use Rattle.facet_slots.specs.FacetValues.{node_outputs}
use Rattle.facet_slots.specs.declared.slot.Slot.{Slot}
use Rattle.facet_slots.specs.declared.scene_flags.SceneFlags.{SceneFlags}
use Rattle.facet_slots.specs.Flags.{Flags, find_node, same_nodes, same_outputs}
use Rattle.facet_slots.specs.Nexts.{input_flagged, kept_outputs, next_from, changed_from, next_outputs, next_changed, IsNextFacet}
use Rattle.facet_slots.proofs.Advance.{kept-found}
use Rattle.facet_slots.proofs.Nexting.{facet-kept}
use Rattle.facet_slots.proofs.Unflagged.{and-true, eqb-sound, or-false}

false-true : false ≡ true → ⊥
false-true e = cc

all-in : (xs ns : List ℕ) → ((n : ℕ) → In n xs → In n ns) → AllByRecursion (λ (n : ℕ). In n ns) xs
all-in [] ns h = tt
all-in (x ∷ xs) ns h = (h x (inl refl), all-in xs ns (λ n i. h n (inr i)))

-- the node of an id is found in a list where it stands
found-in : (defs : List (NodeDef Val)) (n : ℕ) (ns : List ℕ) → In n ns → find_node n (map (input_node defs) ns) ≡ Some (input_node defs n)
found-in defs n [] i = absurd i
found-in defs n (m ∷ ns) i =
    elim (eqb m n) as (λ b. eqb m n ≡ b → cond b (Some (input_node defs m)) (find_node n (map (input_node defs) ns)) ≡ Some (input_node defs n)) [
      | true ↦ λ e. ap (λ (k : ℕ). Some (input_node defs k)) (eqb-sound m n e)
      | false ↦ λ e. ⊎_elim (λ same. absurd (false-true (sym e ∙ (Decides-eqb m n).1 (sym same)))) (λ rest. found-in defs n ns rest) i
    ] refl

module _ (rules : Rules) (scene old_scene : SceneView) (moved : SceneFlags) (flags : Flags) (values old_values : Values) (defs : List (NodeDef Val)) (ns : List ℕ) where
  abbrev was : List InputNode
  was = map (input_node defs) ns

  abbrev kept : List (List Val)
  kept = map (node_outputs rules old_scene old_values) was

  kept-at : (n : ℕ) → In n ns → kept_outputs n was kept ≡ Some (node_outputs rules old_scene old_values (input_node defs n))
  kept-at n i = kept-found rules old_scene old_values n was ∙ ap (option_map (node_outputs rules old_scene old_values)) (found-in defs n ns i)

  still-outputs : (xs : List ℕ) (is : List InputNode) → AllByRecursion (λ (n : ℕ). In n ns) xs → same_nodes (map (input_node defs) xs) is ≡ true → list_any (input_flagged moved flags) is ≡ false
      → map (node_outputs rules old_scene old_values) (map (input_node defs) xs) ≡ map (next_outputs rules scene moved flags values was kept) is
  still-outputs [] [] h same quiet = refl
  still-outputs [] (i ∷ is) h same quiet = absurd (false-true same)
  still-outputs (x ∷ xs) [] h same quiet = absurd (false-true same)
  still-outputs (x ∷ xs) (i ∷ is) h same quiet =
      let one : node_outputs rules old_scene old_values (input_node defs x) ≡ next_outputs rules scene moved flags values was kept i =
      sym (ap (λ (n : ℕ). next_from rules scene moved flags values i (kept_outputs n was kept)) (sym (eqb-sound x i.node (and-true (eqb x i.node) (same_nodes (map (input_node defs) xs) is) same).0))
      ∙ ap (next_from rules scene moved flags values i) (kept-at x h.0)
      ∙ ap (λ (b : Bool). cond b (node_outputs rules scene values i) (node_outputs rules old_scene old_values (input_node defs x))) (or-false (input_flagged moved flags i) (list_any (input_flagged moved flags) is) quiet).0) in
      let rest = still-outputs xs is h.1 (and-true (eqb x i.node) (same_nodes (map (input_node defs) xs) is) same).1 (or-false (input_flagged moved flags i) (list_any (input_flagged moved flags) is) quiet).1 in cc

  none-changed : (compare : ℕ) (xs : List ℕ) (is : List InputNode) → AllByRecursion (λ (n : ℕ). In n ns) xs → same_nodes (map (input_node defs) xs) is ≡ true → list_any (input_flagged moved flags) is ≡ false
      → list_any (next_changed rules scene moved flags values compare was kept) is ≡ false
  none-changed compare [] [] h same quiet = refl
  none-changed compare [] (i ∷ is) h same quiet = absurd (false-true same)
  none-changed compare (x ∷ xs) [] h same quiet = refl
  none-changed compare (x ∷ xs) (i ∷ is) h same quiet =
      let one : next_changed rules scene moved flags values compare was kept i ≡ false =
      ap (λ (n : ℕ). changed_from rules scene moved flags values compare i (kept_outputs n was kept)) (sym (eqb-sound x i.node (and-true (eqb x i.node) (same_nodes (map (input_node defs) xs) is) same).0))
      ∙ ap (changed_from rules scene moved flags values compare i) (kept-at x h.0)
      ∙ ap (λ (b : Bool). b && not (same_outputs rules compare (node_outputs rules old_scene old_values (input_node defs x)) (node_outputs rules scene values i))) (or-false (input_flagged moved flags i) (list_any (input_flagged moved flags) is) quiet).0 in
      let rest = none-changed compare xs is h.1 (and-true (eqb x i.node) (same_nodes (map (input_node defs) xs) is) same).1 (or-false (input_flagged moved flags i) (list_any (input_flagged moved flags) is) quiet).1 in cc

  -- what is kept is what comes next
  pub facet-still : (def : FacetDef) (facet : PresentFacet) (old : Val) → same_nodes was facet.inputs ≡ true → list_any (input_flagged moved flags) facet.inputs ≡ false
      → IsNextFacet rules scene moved flags values (Some (record { def = def; inputs = was })) kept (Some old) facet old false kept
  facet-still def facet old same quiet =
      facet-kept rules scene moved flags values (record { def = def; inputs = was }) kept facet old old kept false
      (still-outputs ns facet.inputs (all-in ns ns (λ n i. i)) same quiet) (sym (none-changed facet.def.compare_input ns facet.inputs (all-in ns ns (λ n i. i)) same quiet))
      (sym (ap (λ (b : Bool). not b) same)) refl

-- what is known of each part of a facet that stays is known of the whole
pub parts-are : {E : Type 0} (P : Val → Bool → List (List Val) → Type 0) (value : Val) (inputs : List (List Val)) → P value false inputs → (r : Result Slot E)
    → IfOk r (λ n. n.value ≡ Some value) → IfOk r (λ n. n.flag ≡ false) → IfOk r (λ n. n.inputs ≡ inputs) → IfOk r (λ n. IsSomeAnd n.value (λ x. P x n.flag n.inputs))
parts-are P value inputs h (Ok n) v f i =
    subst (λ (o : Option Val). IsSomeAnd o (λ x. P x n.flag n.inputs)) (sym v)
    (subst (λ (b : Bool). P value b n.inputs) (sym f) (subst (λ (xs : List (List Val)). P value false xs) (sym i) h))
parts-are P value inputs h (Err e) v f i = tt
