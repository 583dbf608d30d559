-- What a refusal may name has a name, after a declaration too.
use Rattle.std.proofs.Common.{◌≡◌, ℕ, ◌+◌, ◌<◌, ◌⊎◌, inl, inr, eq-or-lt_of_le, List, [], ◌∷◌, ◌++◌, length, Bool, true, false, ◌==◌, cond, Option, Some, None, is_some, refl, sym, ap, subst, arith, rules, true≢false}
use Rattle.std.proofs.lemmas.Option.{slice_get_within}
use Rattle.ext_tree.specs.declared.node.Node.{Node as Extension}
use Rattle.ext_tree.specs.declared.node.Node.TheVariants as nodes
use Rattle.configuration.specs.declared.facet_def.FacetDef.{FacetDef}
use Rattle.configuration.specs.declared.field_def.FieldDef.{FieldDef}
use Rattle.configuration.specs.declared.node_def.NodeDef.{NodeDef}
use Rattle.configuration.specs.declared.node_def.NodeDef.TheVariants as defs
use Rattle.names.specs.Known.{AreNamed, HasName}
use Rattle.names.specs.Names.{NameList, has_id, name_of, with_name}
use Rattle.names.specs.declared.named.Named.{Named}
use Rattle.names.specs.declared.named.Named.TheVariants.{Compartment, Effect, Facet, Field, Node}
use Rattle.registry.proofs.Lists.{at-pushed}
use Rattle.registry.specs.declared.id_sort.IdSort.{IdSort}
use Rattle.registry.specs.declared.id_sort.IdSort.TheVariants as sorts
use Rattle.registry.specs.declared.provided.Provided.{Provided}
use Rattle.registry.specs.WholeFields.{with_input_from, with_inputs_from, with_whole_field}
use Rattle.values.specs.declared.val.Val.{Val}
use Rattle.values.specs.Declarations.{Declarations, with_compartment, with_effect, with_facet, with_field, with_node, with_pair}

-- a name stays
kept_name : (sort : IdSort) (id : ℕ) (names more : NameList) → HasName names sort id → HasName (names ++ more) sort id
kept_name sort id [] more h = absurd (true≢false (sym h))
kept_name sort id (e ∷ es) more h = here (λ there. kept_name sort id es more there) (has_id sort id e.1) h where
  here : (HasName es sort id → HasName (es ++ more) sort id) → (b : Bool) → is_some (cond b (Some e.0) (name_of sort id es)) ≡ true → is_some (cond b (Some e.0) (name_of sort id (es ++ more))) ≡ true
  here later true h = refl
  here later false h = later h

-- the last name counts too
last_name : (sort : IdSort) (id : ℕ) (names : NameList) (name : List ℕ) (thing : Named) → has_id sort id thing ≡ true → HasName (with_name names name thing) sort id
last_name sort id [] name thing h = ap (λ b. is_some (cond b (Some name) None)) h
last_name sort id (e ∷ es) name thing h = here (last_name sort id es name thing h) (has_id sort id e.1) where
  here : HasName (with_name es name thing) sort id → (b : Bool) → is_some (cond b (Some e.0) (name_of sort id (with_name es name thing))) ≡ true
  here later true = refl
  here later false = later

same_id : (n : ℕ) → (n == n) ≡ true
same_id n = search rules

-- one more name takes none away
pub still_named : (names : NameList) (name : List ℕ) (thing : Named) (d : Declarations) → AreNamed names d → AreNamed (with_name names name thing) d
still_named names name thing d n = record {
  facets = λ id h. kept_name sorts.Facet id names ((name, thing) ∷ []) (n.facets id h);
  fields = λ id h. kept_name sorts.Field id names ((name, thing) ∷ []) (n.fields id h);
  compartments = λ id h. kept_name sorts.Compartment id names ((name, thing) ∷ []) (n.compartments id h);
  slots = λ id compartment content h. kept_name sorts.Node id names ((name, thing) ∷ []) (n.slots id compartment content h);
}

-- with one more node, which has a name if it is a slot
more_nodes : (names : NameList) (d : Declarations) (node : Extension) (def : NodeDef Val) → AreNamed names d → ((compartment content : ℕ) → node ≡ nodes.Slot compartment content → HasName names sorts.Node (length d.nodes))
    → AreNamed names (with_node d node def)
more_nodes names d node def n last = record {
  facets = n.facets;
  fields = n.fields;
  compartments = n.compartments;
  slots = λ id compartment content h.
      at-pushed (λ id o. (compartment content : ℕ) → o ≡ Some (nodes.Slot compartment content) → HasName names sorts.Node id) d.nodes node (λ id l compartment content h. n.slots id compartment content h)
      (λ compartment content h. last compartment content (same_node h)) id (slice_get_within (d.nodes ++ node ∷ []) id (nodes.Slot compartment content) h) compartment content h;
} where
  or_else : Option Extension → Extension
  or_else None = node
  or_else (Some x) = x

  same_node : {x : Extension} → Some node ≡ Some x → node ≡ x
  same_node h = ap or_else h

pub named_node : (names : NameList) (name : List ℕ) (d : Declarations) (node : Extension) (def : NodeDef Val) → AreNamed names d → AreNamed (with_name names name (Node (length d.nodes))) (with_node d node def)
named_node names name d node def n =
    more_nodes (with_name names name (Node (length d.nodes))) d node def (still_named names name (Node (length d.nodes)) d n)
    (λ compartment content h. last_name sorts.Node (length d.nodes) names name (Node (length d.nodes)) (same_id (length d.nodes)))

pub named_facet : (names : NameList) (name : List ℕ) (d : Declarations) (def : FacetDef) (enables : List ℕ) → AreNamed names d → AreNamed (with_name names name (Facet (length d.facets))) (with_facet d def enables)
named_facet names name d def enables n =
    let all = with_name names name (Facet (length d.facets)) in
    let k = still_named names name (Facet (length d.facets)) d n in
    record {
      facets = at-pushed (λ id o. HasName all sorts.Facet id) d.facets def k.facets (last_name sorts.Facet (length d.facets) names name (Facet (length d.facets)) (same_id (length d.facets)));
      fields = k.fields;
      compartments = k.compartments;
      slots = k.slots;
    }

pub named_effect : (names : NameList) (name : List ℕ) (d : Declarations) (map : Option ℕ) → AreNamed names d → AreNamed (with_name names name (Effect (length d.maps))) (with_effect d map)
named_effect names name d map n =
    let k = still_named names name (Effect (length d.maps)) d n in
    record { facets = k.facets; fields = k.fields; compartments = k.compartments; slots = k.slots }

pub named_pair : (names : NameList) (d : Declarations) (effect back : ℕ) → AreNamed names d → AreNamed names (with_pair d effect back)
named_pair names d effect back n = record { facets = n.facets; fields = n.fields; compartments = n.compartments; slots = n.slots }

pub named_compartment : (names : NameList) (name : List ℕ) (d : Declarations) → AreNamed names d → AreNamed (with_name names name (Compartment d.compartments)) (with_compartment d)
named_compartment names name d n = record {
  facets = k.facets;
  fields = k.fields;
  compartments = λ id h. named id (eq-or-lt_of_le {n = id} {m = d.compartments} (omega (arith, h)));
  slots = k.slots;
} where
  k : AreNamed (with_name names name (Compartment d.compartments)) d
  k = still_named names name (Compartment d.compartments) d n

  last : HasName (with_name names name (Compartment d.compartments)) sorts.Compartment d.compartments
  last = last_name sorts.Compartment d.compartments names name (Compartment d.compartments) (same_id d.compartments)

  named : (id : ℕ) → (id ≡ d.compartments) ⊎ (id < d.compartments) → HasName (with_name names name (Compartment d.compartments)) sorts.Compartment id
  named id (inl e) = subst (λ i. HasName (with_name names name (Compartment d.compartments)) sorts.Compartment i) (sym e) last
  named id (inr l) = k.compartments id l

abbrev is_slot : Extension → Bool
is_slot (nodes.Slot compartment content) = true
is_slot _ = false

-- inputs from a field are no slots
named_inputs : (names : NameList) (d : Declarations) (field : ℕ) (ps : List Provided) → AreNamed names d → AreNamed names (with_inputs_from d field ps)
named_inputs names d field [] n = n
named_inputs names d field (p ∷ ps) n =
    named_inputs names (with_input_from d field p) field ps (more_nodes names d (nodes.Input p.facet) _ n (λ compartment content h. absurd (true≢false (sym (ap is_slot h)))))

named_last_field : (names : NameList) (name : List ℕ) (d : Declarations) (def : FieldDef) (node : ℕ) → AreNamed names d → AreNamed (with_name names name (Field (length d.fields) node)) (with_field d def)
named_last_field names name d def node n =
    let all = with_name names name (Field (length d.fields) node) in
    let k = still_named names name (Field (length d.fields) node) d n in
    record {
      facets = k.facets;
      fields = at-pushed (λ id o. HasName all sorts.Field id) d.fields def k.fields (last_name sorts.Field (length d.fields) names name (Field (length d.fields) node) (same_id (length d.fields)));
      compartments = k.compartments;
      slots = k.slots;
    }

pub named_field : (names : NameList) (name : List ℕ) (d : Declarations) (def : FieldDef) (ps : List Provided) → AreNamed names d
    → AreNamed (with_name names name (Field (length d.fields) (length d.nodes + length ps))) (with_whole_field d def ps)
named_field names name d def ps n =
    let all = with_name names name (Field (length d.fields) (length d.nodes + length ps)) in
    let made = with_inputs_from (with_field d def) (length d.fields) ps in
    let k = more_nodes all made (nodes.Field (length d.fields)) defs.Field (named_inputs all (with_field d def) (length d.fields) ps (named_last_field names name d def (length d.nodes + length ps) n)) (λ compartment content h. absurd (true≢false (sym (ap is_slot h)))) in
    record { facets = k.facets; fields = k.fields; compartments = k.compartments; slots = k.slots }
