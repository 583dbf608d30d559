-- A declaration that isn't refused leaves what is declared lawful.
use Rattle.std.proofs.Common.{◌≡◌, ℕ, zero, suc, ◌<◌, List, [], ◌∷◌, Bool, true, false, not, Option, Some, None, length, get_or, slice_get, refl, sym, subst, arith}
use Rattle.std.specs.Option.{option_or}
use Rattle.registry.specs.declared.registry_error.RegistryError.{RegistryError}
use Rattle.std.proofs.lemmas.Option.{none-some, same_Some}
use Rattle.cm_plain.specs.Form.{Form, fits}
use Rattle.configuration.specs.declared.dependency.Dependency.{Dependency}
use Rattle.configuration.specs.declared.dependency.Dependency.TheVariants as reads
use Rattle.configuration.specs.declared.facet_def.FacetDef.{FacetDef}
use Rattle.configuration.specs.declared.field_def.FieldDef.{FieldDef}
use Rattle.configuration.specs.declared.node_def.NodeDef.{NodeDef}
use Rattle.configuration.specs.declared.node_def.NodeDef.TheVariants as defs
use Rattle.ext_tree.specs.declared.node.Node.TheVariants as nodes
use Rattle.ext_tree.specs.declared.precedence.Precedence.{Precedence}
use Rattle.values.specs.declared.val.Val.{Val}
use Rattle.values.specs.Rules.{Rules}
use Rattle.values.specs.InRange.{IsInRange}
use Rattle.values.specs.Vals.{is_of}
use Rattle.registry.specs.declared.rule_sort.RuleSort.{RuleSort}
use Rattle.registry.specs.declared.rule_sort.RuleSort.TheVariants.{Combine, Compare, Compute, ComputeN, Create, Update, EffectMap}
use Rattle.registry.specs.declared.id_sort.IdSort.TheVariants.{Compartment, Effect, Facet, Field, Node as NodeSort}
use Rattle.values.specs.Declarations.{Declarations, is_placed, nothing, with_compartment, with_effect, with_facet, with_field, with_node, with_placed, max_count}
use Rattle.registry.specs.Refusals.{Passes, has_room, compartment_refusals, compute_n_refusals, compute_refusals, computed_names, computed_refusals, computes, effect_refusals, facet_refusals, field_names, field_refusals, from_refusals, group_refusals, init_fits, init_refusals, input_refusals, map_known, first_of, output_fits, pair_refusals, place_refusals, prec_refusals, slot_refusals, value_fits}
use Rattle.values.specs.Lawful.{IsComputed, IsInit, IsInput, IsLawful, IsMap}
use Rattle.registry.proofs.Passing.{are-known, are-reads, holds, is-known, is-rule, none-of, room}
use Rattle.registry.proofs.Lawfulness.{lawful-compartment, lawful-effect, lawful-facet, lawful-field, lawful-node}
use Rattle.registry.proofs.Placing.{lawful-placed}

not-none : {X : Type 0} (xs : List X) (i : ℕ) → i < length xs → slice_get xs i ≡ None → ⊥
not-none [] i l e = omega (arith, l)
not-none (x ∷ xs) zero l e = none-some x (sym e)
not-none (x ∷ xs) (suc i) l e = not-none xs i (omega (arith, l)) e

mark-within : (xs : List Bool) (i : ℕ) → get_or xs i false ≡ true → i < length xs
mark-within [] i e = absurd (grind (arith, e))
mark-within (x ∷ xs) zero e = omega arith
mark-within (x ∷ xs) (suc i) e = let l : i < length xs = mark-within xs i e in omega (arith, l)

not-true : (b : Bool) → not b ≡ true → b ≡ false
not-true true e = sym e
not-true false e = refl

pub lawful-nothing : (rules : Rules) → IsLawful rules nothing
lawful-nothing rules = record {
  facets = λ i x e. absurd (none-some x e);
  fields = λ i x e. absurd (none-some x e);
  nodes = λ i x e. absurd (none-some x e);
  maps = λ i x e. absurd (none-some x e);
  pairs = λ i j e. absurd (none-some j e);
  aligned = record { node_defs = refl; enabled = refl; provided = refl; placed = refl; pairs = refl };
  linked = record { older = λ n l. absurd (omega (arith, l)); enabled = λ i. tt; provided = λ i. tt; placed = λ n field e. absurd (none-some field e) };
  within = record { facets = omega arith; fields = omega arith; nodes = omega arith; effects = omega arith; compartments = omega arith };
}

module _ (rules : Rules) (d : Declarations) (h : IsLawful rules d) where
  pub declare-facet : (def : FacetDef) (enables : List ℕ) → Passes (facet_refusals rules d def enables) → IsLawful rules (with_facet d def enables)
  declare-facet def enables e =
      let p = none-of (facet_refusals rules d def enables) e in
      lawful-facet rules d h def enables (record {
        combine = is-rule Combine rules.combiners def.combine p.1.0;
        compare_input = is-rule Compare rules.comparers def.compare_input p.1.1.0;
        compare = is-rule Compare rules.comparers def.compare p.1.1.1.0;
      }) (are-known NodeSort (length d.nodes) enables p.0) (room Facet (length d.facets) p.1.1.1.1.0)

  pub declare-field : (def : FieldDef) → Passes (field_refusals rules d def) → IsLawful rules (with_field d def)
  declare-field def e =
      let p = none-of (field_refusals rules d def) e in
      let n = none-of (field_names rules d def) p.0 in
      lawful-field rules d h def (record {
        create = is-rule Create rules.creators def.create n.1.1.0;
        update = is-rule Update rules.updaters def.update n.1.1.1.0;
        compare = is-rule Compare rules.comparers def.compare n.1.1.1.1.0;
        created_fits = holds (fits (rules.create_output def.create) (rules.update_shape def.update)) _ p.1.0;
        reads = are-reads d def.reads n.0;
        listens = are-known Effect (length d.maps) def.listens n.1.0;
      }) (room Field (length d.fields) p.1.1.0)

  pub place-unplaced : (field : ℕ) (provides : List ℕ) → Passes (place_refusals d field provides) → is_placed d field ≡ false
  place-unplaced field provides e = not-true (is_placed d field) (holds (not (is_placed d field)) _ (none-of (place_refusals d field provides) e).1.1.0)

  pub declare-place : (field : ℕ) (provides : List ℕ) → Passes (place_refusals d field provides) → IsLawful rules (with_placed d field provides)
  declare-place field provides e =
      let p = none-of (place_refusals d field provides) e in
      lawful-placed rules d h field provides (is-known Field (length d.fields) field p.0) (place-unplaced field provides e) (are-known NodeSort (length d.nodes) provides p.1.0) (room NodeSort (length d.nodes) p.1.1.1.0)

  is-map : (map : Option ℕ) → map_known rules map ≡ None → IsMap rules map
  is-map None e = tt
  is-map (Some number) e = is-rule EffectMap rules.effect_maps number e

  pub declare-effect : (map : Option ℕ) → Passes (effect_refusals rules d map) → IsLawful rules (with_effect d map)
  declare-effect map e =
      let p = none-of (effect_refusals rules d map) e in
      lawful-effect rules d h map (is-map map p.0) (room Effect (length d.maps) p.1.0)

  pub declare-compartment : Passes (compartment_refusals d) → IsLawful rules (with_compartment d)
  declare-compartment e =
      let p = none-of (compartment_refusals d) e in
      lawful-compartment rules d h (room Compartment d.compartments p.0)

  pub declare-group : (of : List ℕ) → Passes (group_refusals d of) → IsLawful rules (with_node d (nodes.Group of) defs.Branch)
  declare-group of e =
      let p = none-of (group_refusals d of) e in
      lawful-node rules d h (nodes.Group of) defs.Branch tt tt (λ field q. absurd (none-some field q)) (room NodeSort (length d.nodes) p.1.0)

  pub declare-prec : (at : Precedence) (of : ℕ) → Passes (prec_refusals d of) → IsLawful rules (with_node d (nodes.Prec at of) defs.Branch)
  declare-prec at of e =
      let p = none-of (prec_refusals d of) e in
      lawful-node rules d h (nodes.Prec at of) defs.Branch tt tt (λ field q. absurd (none-some field q)) (room NodeSort (length d.nodes) p.1.0)

  pub declare-slot : (compartment of : ℕ) → Passes (slot_refusals d compartment of) → IsLawful rules (with_node d (nodes.Slot compartment of) defs.Branch)
  declare-slot compartment of e =
      let p = none-of (slot_refusals d compartment of) e in
      lawful-node rules d h (nodes.Slot compartment of) defs.Branch (is-known Compartment d.compartments compartment p.0) tt (λ field q. absurd (none-some field q)) (room NodeSort (length d.nodes) p.1.1.0)

  declare-node-of : (facet : ℕ) (def : NodeDef Val) → IsInput rules d (slice_get d.facets facet) def → length d.nodes < max_count → IsLawful rules (with_node d (nodes.Input facet) def)
  declare-node-of facet def f r = lawful-node rules d h (nodes.Input facet) def f (h.linked.enabled facet) (λ field q. absurd (none-some field q)) r

  is-value : (facet : ℕ) (value : Val) (o : Option FacetDef) → (o ≡ None → ⊥) → value_fits rules facet o value ≡ None → IsInRange value → IsInput rules d o (defs.Of value)
  is-value facet value None k e r = absurd (k refl)
  is-value facet value (Some def) k e r = record { shape = holds (is_of (rules.combine_input def.combine) value) _ e; range = r }

  pub declare-input : (facet : ℕ) (value : Val) → Passes (input_refusals rules d facet value) → IsInRange value → IsLawful rules (with_node d (nodes.Input facet) (defs.Of value))
  declare-input facet value e r =
      let p = none-of (input_refusals rules d facet value) e in
      let l : facet < length d.facets = is-known Facet (length d.facets) facet p.0 in
      declare-node-of facet (defs.Of value) (is-value facet value (slice_get d.facets facet) (not-none d.facets facet l) p.1.0 r) (room NodeSort (length d.nodes) p.1.1.0)

  -- whatever definition a computed input is written down as
  is-computed : (facet : ℕ) (rs : List Dependency) (sort : RuleSort) (count : ℕ) (output : ℕ → Form) (rule : ℕ) (def : NodeDef Val) (o : Option FacetDef) → (o ≡ None → ⊥) → ((x : FacetDef) → IsComputed rules d x count output rule rs → IsInput rules d (Some x) def)
      → first_of (computed_names d facet rs sort count rule) ≡ None → computes facet o ≡ None → output_fits rules facet o (output rule) ≡ None → IsInput rules d o def
  is-computed facet rs sort count output rule def None k f e c q = absurd (k refl)
  is-computed facet rs sort count output rule def (Some x) k f e c q =
      let n = none-of (computed_names d facet rs sort count rule) e in
      f x (record {
        not_static = not-true x.is_static (holds (not x.is_static) _ c);
        is_rule = is-rule sort count rule n.1.1.0;
        output_fits = holds (fits (output rule) (rules.combine_input x.combine)) _ q;
        reads = are-reads d rs n.1.0;
      })

  declare-computed : (facet : ℕ) (rs : List Dependency) (sort : RuleSort) (count : ℕ) (output : ℕ → Form) (rule : ℕ) (def : NodeDef Val) → ((x : FacetDef) → IsComputed rules d x count output rule rs → IsInput rules d (Some x) def)
      → Passes (computed_refusals rules d facet rs sort count output rule) → IsLawful rules (with_node d (nodes.Input facet) def)
  declare-computed facet rs sort count output rule def f e =
      let p = none-of (computed_refusals rules d facet rs sort count output rule) e in
      let n = none-of (computed_names d facet rs sort count rule) p.0 in
      let l : facet < length d.facets = is-known Facet (length d.facets) facet n.0 in
      declare-node-of facet def (is-computed facet rs sort count output rule def (slice_get d.facets facet) (not-none d.facets facet l) f p.0 n.1.1.1.0 p.1.0) (room NodeSort (length d.nodes) p.1.1.0)

  pub declare-compute : (facet rule : ℕ) (rs : List Dependency) → Passes (compute_refusals rules d facet rule rs) → IsLawful rules (with_node d (nodes.Input facet) (defs.Compute rule rs))
  declare-compute facet rule rs e = declare-computed facet rs Compute rules.computers rules.compute_output rule (defs.Compute rule rs) (λ x c. c) e

  pub declare-compute-n : (facet rule : ℕ) (rs : List Dependency) → Passes (compute_n_refusals rules d facet rule rs) → IsLawful rules (with_node d (nodes.Input facet) (defs.ComputeN rule rs))
  declare-compute-n facet rule rs e = declare-computed facet rs ComputeN rules.list_computers rules.list_output rule (defs.ComputeN rule rs) (λ x c. c) e

  pub declare-from : (facet field rule : ℕ) → Passes (from_refusals rules d facet field rule) → IsLawful rules (with_node d (nodes.Input facet) (defs.From field rule))
  declare-from facet field rule e = declare-computed facet (reads.Field field ∷ []) Compute rules.computers rules.compute_output rule (defs.From field rule) (λ x c. c) e

  is-init : (field : ℕ) (value : Val) (o : Option FieldDef) → (o ≡ None → ⊥) → init_fits rules field o value ≡ None → IsInRange value → IsInit rules o value
  is-init field value None k e r = absurd (k refl)
  is-init field value (Some def) k e r = record { shape = holds (is_of (rules.update_shape def.update) value) _ e; range = r }

  pub declare-init : (field : ℕ) (value : Val) → Passes (init_refusals rules d field value) → IsInRange value → IsLawful rules (with_node d (nodes.Init field) (defs.Init value))
  declare-init field value e r =
      let p = none-of (init_refusals rules d field value) e in
      let m : is_placed d field ≡ true = holds (is_placed d field) _ p.0 in
      let k : field < length d.placed = mark-within d.placed field m in
      let l : field < length d.fields = omega (arith, k, h.aligned.placed) in
      lawful-node rules d h (nodes.Init field) (defs.Init value) (is-init field value (slice_get d.fields field) (not-none d.fields field l) p.1.0 r) (h.linked.provided field) (λ g q. subst (λ i. is_placed d i ≡ true) (same_Some field g q) m) (room NodeSort (length d.nodes) p.1.1.0)

pub compartment-passes : (d : Declarations) (n : ℕ) → n ≡ d.compartments → has_room Compartment n ≡ None → Passes (compartment_refusals d)
compartment-passes d n p e = subst (λ (m : ℕ). option_or (has_room Compartment m) None ≡ None) p (subst (λ (o : Option RegistryError). option_or o None ≡ None) (sym e) refl)

-- effect kinds that are to be paired have a place among the pairs
pub pair-within : (rules : Rules) (d : Declarations) → IsLawful rules d → (effect back : ℕ) → Passes (pair_refusals d effect back) → (effect < length d.pairs) × (back < length d.pairs)
pair-within rules d h effect back e =
    let p = none-of (pair_refusals d effect back) e in
    let k : effect < length d.maps = is-known Effect (length d.maps) effect p.0 in
    let l : back < length d.maps = is-known Effect (length d.maps) back p.1.0 in
    (omega (arith, k, h.aligned.pairs), omega (arith, l, h.aligned.pairs))
