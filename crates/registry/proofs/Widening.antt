-- What is lawful stays so where more is declared.
use Rattle.std.proofs.Common.{◌≡◌, ℕ, ◌≤◌, List, [], ◌∷◌, Option, Some, None, length, slice_get, refl, sym, subst, arith}
use Rattle.std.specs.List.{AllByRecursion}
use Rattle.configuration.specs.declared.dependency.Dependency.{Dependency}
use Rattle.configuration.specs.declared.dependency.Dependency.TheVariants as reads
use Rattle.configuration.specs.declared.facet_def.FacetDef.{FacetDef}
use Rattle.configuration.specs.declared.field_def.FieldDef.{FieldDef}
use Rattle.configuration.specs.declared.node_def.NodeDef.{NodeDef}
use Rattle.configuration.specs.declared.node_def.NodeDef.TheVariants as defs
use Rattle.ext_tree.specs.declared.node.Node.{Node}
use Rattle.ext_tree.specs.declared.node.Node.TheVariants as nodes
use Rattle.ext_tree.specs.Tree.{IsOlder}
use Rattle.values.specs.declared.val.Val.{Val}
use Rattle.cm_plain.specs.Form.{Form}
use Rattle.values.specs.Rules.{Rules}
use Rattle.values.specs.Declarations.{Declarations}
use Rattle.values.specs.Lawful.{IsComputed, IsDefined, IsInit, IsInput, IsLawfulField, IsRead}
use Rattle.values.specs.Growth.{Keeps}
use Rattle.registry.proofs.Lists.{All-map}

-- wider: facets and fields keep their definitions, and there are no fewer of any kind
pub record Widens (old new : Declarations) : Type 0 where
  pub facets : Keeps old.facets new.facets
  pub fields : Keeps old.fields new.fields
  pub facet_count : length old.facets ≤ length new.facets
  pub field_count : length old.fields ≤ length new.fields
  pub effects : length old.maps ≤ length new.maps
  pub compartments : old.compartments ≤ new.compartments

module _ {old new : Declarations} (w : Widens old new) where
  pub read-widens : (r : Dependency) → IsRead old r → IsRead new r
  read-widens reads.Doc h = h
  read-widens reads.Selection h = h
  read-widens (reads.Facet facet) h = omega (arith, w.facet_count, h)
  read-widens (reads.Field field) h = omega (arith, w.field_count, h)

  pub reads-widen : (rs : List Dependency) → AllByRecursion (IsRead old) rs → AllByRecursion (IsRead new) rs
  reads-widen rs h = All-map (IsRead old) (IsRead new) read-widens rs h

  pub listens-widen : (ids : List ℕ) → AllByRecursion (IsOlder (length old.maps)) ids → AllByRecursion (IsOlder (length new.maps)) ids
  listens-widen ids h = All-map (IsOlder (length old.maps)) (IsOlder (length new.maps)) (λ id k. omega (arith, w.effects, k)) ids h

  pub field-widens : (rules : Rules) (def : FieldDef) → IsLawfulField rules old def → IsLawfulField rules new def
  field-widens rules def h = record {
    create = h.create;
    update = h.update;
    compare = h.compare;
    created_fits = h.created_fits;
    reads = reads-widen def.reads h.reads;
    listens = listens-widen def.listens h.listens;
  }

  pub computed-widens : (rules : Rules) (facet : FacetDef) (count : ℕ) (output : ℕ → Form) (rule : ℕ) (rs : List Dependency) → IsComputed rules old facet count output rule rs → IsComputed rules new facet count output rule rs
  computed-widens rules facet count output rule rs h = record {
    not_static = h.not_static;
    is_rule = h.is_rule;
    output_fits = h.output_fits;
    reads = reads-widen rs h.reads;
  }

  pub input-widens : (rules : Rules) (facet : FacetDef) (def : NodeDef Val) → IsInput rules old (Some facet) def → IsInput rules new (Some facet) def
  input-widens rules facet (defs.Of value) h = h
  input-widens rules facet (defs.Compute rule rs) h = computed-widens rules facet _ _ rule rs h
  input-widens rules facet (defs.ComputeN rule rs) h = computed-widens rules facet _ _ rule rs h
  input-widens rules facet (defs.From field rule) h = computed-widens rules facet _ _ rule (reads.Field field ∷ []) h
  input-widens rules facet defs.Branch h = h
  input-widens rules facet defs.Field h = h
  input-widens rules facet (defs.Init value) h = h

  input-of : (rules : Rules) (facet : ℕ) (o : Option FacetDef) (def : NodeDef Val) → slice_get old.facets facet ≡ o → IsInput rules old o def → IsInput rules new (slice_get new.facets facet) def
  input-of rules facet None def e h = absurd h
  input-of rules facet (Some x) def e h =
      subst (λ o. IsInput rules new o def) (sym (w.facets facet x e)) (input-widens rules x def h)

  init-of : (rules : Rules) (field : ℕ) (o : Option FieldDef) (value : Val) → slice_get old.fields field ≡ o → IsInit rules o value → IsInit rules (slice_get new.fields field) value
  init-of rules field None value e h = absurd h
  init-of rules field (Some x) value e h = subst (λ o. IsInit rules o value) (sym (w.fields field x e)) h

  pub defined-widens : (rules : Rules) (node : Node) (def : Option (NodeDef Val)) → IsDefined rules old node def → IsDefined rules new node def
  defined-widens rules (nodes.Input facet) (Some def) h = input-of rules facet (slice_get old.facets facet) def refl h
  defined-widens rules (nodes.Slot compartment content) (Some defs.Branch) h = omega (arith, w.compartments, h)
  defined-widens rules (nodes.Field field) (Some defs.Field) h = omega (arith, w.field_count, h)
  defined-widens rules (nodes.Init field) (Some (defs.Init value)) h = init-of rules field (slice_get old.fields field) value refl h
  defined-widens rules node def h = h
