-- A resolved configuration has no place past its definitions, and its nodes are defined.
use Rattle.std.proofs.Common.{◌≡◌, ◌≤◌, ◌<◌, ◌+◌, ◌∙◌, ℕ, zero, suc, List, [], ◌∷◌, true, false, cond, Option, Some, length, slice_get, get_or, map, refl, sym, ap, subst, arith, ⊎_elim}
use Rattle.std.specs.Option.{option_flatten}
use Rattle.std.specs.List.{AllByRecursion, range_with_len}
use Rattle.std.proofs.lemmas.Option.{slice_get_cases}
use Rattle.ext_tree.specs.declared.node.Node.{Node}
use Rattle.ext_tree.specs.Flat.{flat_order}
use Rattle.configuration.specs.Present.{facet_in, field_in, is_id, inputs_of, node_of_field}
use Rattle.configuration.proofs.Placing.{numbers-length}
use Rattle.values.specs.declared.val.Val.{Val}
use Rattle.facet_slots.specs.Setups.{Definitions, Setup, node_at}
use Rattle.facet_slots.specs.Resolving.{IsResolvedOver, IsResolved, IsFormed}
use Rattle.facet_slots.proofs.Growing.{longer, some-same}

module _ (nodes : List Node) where
  facet-inside : (f n : ℕ) → is_id f (facet_in (slice_get nodes n)) ≡ true → n < length nodes
  facet-inside f n e =
      ⊎_elim (λ found. found.1) (λ past. absurd (none-is (sym e ∙ ap (λ (o : Option Node). is_id f (facet_in o)) past.1))) ((slice_get_cases nodes n).1)
    where
      none-is : true ≡ false → ⊥
      none-is e = cc

  field-inside : (f n : ℕ) → is_id f (field_in (slice_get nodes n)) ≡ true → n < length nodes
  field-inside f n e =
      ⊎_elim (λ found. found.1) (λ past. absurd (none-is (sym e ∙ ap (λ (o : Option Node). is_id f (field_in o)) past.1))) ((slice_get_cases nodes n).1)
    where
      none-is : true ≡ false → ⊥
      none-is e = cc

  inputs-inside : (f : ℕ) (ns : List ℕ) → AllByRecursion (λ (n : ℕ). n < length nodes) (inputs_of nodes f ns)
  inputs-inside f [] = tt
  inputs-inside f (n ∷ ns) =
      elim (is_id f (facet_in (slice_get nodes n)))
      as (λ b. is_id f (facet_in (slice_get nodes n)) ≡ b → AllByRecursion (λ (m : ℕ). m < length nodes) (cond b (n ∷ inputs_of nodes f ns) (inputs_of nodes f ns))) [
        | true ↦ λ e. (facet-inside f n e, inputs-inside f ns)
        | false ↦ λ e. inputs-inside f ns
      ] refl

  node-inside : (f : ℕ) (ns : List ℕ) (m : ℕ) → node_of_field nodes f ns ≡ Some m → m < length nodes
  node-inside f [] m e = cc
  node-inside f (n ∷ ns) m e =
      elim (is_id f (field_in (slice_get nodes n)))
      as (λ b. is_id f (field_in (slice_get nodes n)) ≡ b → cond b (Some n) (node_of_field nodes f ns) ≡ Some m → m < length nodes) [
        | true ↦ λ is at. subst (λ (k : ℕ). k < length nodes) (some-same at) (field-inside f n is)
        | false ↦ λ is at. node-inside f ns m at
      ] refl e

  -- a list of a facet is the inputs of one facet, or empty
  lists-inside : (facets from f : ℕ) (ns : List ℕ) → AllByRecursion (λ (n : ℕ). n < length nodes) (get_or (map (λ (facet : ℕ). inputs_of nodes facet ns) (range_with_len from facets)) f [])
  lists-inside zero from f ns = tt
  lists-inside (suc facets) from zero ns = inputs-inside from ns
  lists-inside (suc facets) from (suc f) ns = lists-inside facets (from + 1) f ns

  nodes-inside : (fields from f : ℕ) (ns : List ℕ) (m : ℕ) → option_flatten (slice_get (map (λ (field : ℕ). node_of_field nodes field ns) (range_with_len from fields)) f) ≡ Some m → m < length nodes
  nodes-inside zero from f ns m e = cc
  nodes-inside (suc fields) from zero ns m e = node-inside from ns m e
  nodes-inside (suc fields) from (suc f) ns m e = nodes-inside fields (from + 1) f ns m e

all-longer : (m n : ℕ) → m ≤ n → (xs : List ℕ) → AllByRecursion (λ (x : ℕ). x < m) xs → AllByRecursion (λ (x : ℕ). x < n) xs
all-longer m n le [] h = tt
all-longer m n le (x ∷ xs) h = let below = h.0 in (omega (arith, below, le), all-longer m n le xs h.1)

module _ (defs : Definitions) (setup : Setup) (over : IsResolvedOver defs setup) where
  pub inputs-length : length setup.config.inputs ≡ length defs.facets
  inputs-length = ap (λ (xs : List (List ℕ)). length xs) over.config.inputs_are ∙ numbers-length (λ (facet : ℕ). inputs_of over.tree.nodes facet (flat_order over.tree over.base)) 0 (length defs.facets)

  pub fields-length : length setup.config.fields ≡ length defs.fields
  fields-length = ap (λ (xs : List (Option ℕ)). length xs) over.config.fields_are ∙ numbers-length (λ (field : ℕ). node_of_field over.tree.nodes field (flat_order over.tree over.base)) 0 (length defs.fields)

  pub inputs-defined : (f : ℕ) → AllByRecursion (λ (n : ℕ). n < length defs.node_defs) (get_or setup.config.inputs f [])
  inputs-defined f =
      all-longer (length over.tree.nodes) (length defs.node_defs) over.defined (get_or setup.config.inputs f [])
      (subst (λ (xs : List (List ℕ)). AllByRecursion (λ (n : ℕ). n < length over.tree.nodes) (get_or xs f [])) (sym over.config.inputs_are) (lists-inside over.tree.nodes (length defs.facets) 0 f (flat_order over.tree over.base)))

  pub fields-defined : (f n : ℕ) → node_at setup f ≡ Some n → n < length defs.node_defs
  fields-defined f n at =
      let inside : n < length over.tree.nodes =
      nodes-inside over.tree.nodes (length defs.fields) 0 f (flat_order over.tree over.base) n (subst (λ (xs : List (Option ℕ)). option_flatten (slice_get xs f) ≡ Some n) over.config.fields_are at) in
      let le = over.defined in omega (arith, inside, le)

-- a resolved configuration is formed over what its definitions have grown to
pub resolved-formed : (setup : Setup) → IsResolved setup → IsFormed setup
resolved-formed setup is =
    let facets = longer is.defs.facets setup.defs.facets is.grown.facets in
    let fields = longer is.defs.fields setup.defs.fields is.grown.fields in
    let nodes = longer is.defs.node_defs setup.defs.node_defs is.grown.node_defs in
    let inputs_are = inputs-length is.defs setup is.over in
    let fields_are = fields-length is.defs setup is.over in
    record {
      inputs = omega (arith, facets, inputs_are);
      fields = omega (arith, fields, fields_are);
      inputs_defined = λ f. all-longer (length is.defs.node_defs) (length setup.defs.node_defs) nodes (get_or setup.config.inputs f []) (inputs-defined is.defs setup is.over f);
      fields_defined = λ f n at. let below = fields-defined is.defs setup is.over f n at in omega (arith, below, nodes);
    }
