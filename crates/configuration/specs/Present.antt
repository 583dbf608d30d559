use Rattle.std.specs.Prelude.{ℕ, zero, suc, ◌+◌, List, [], ◌∷◌, ◌++◌, Bool, false, cond, eqb, filter, find, map, flat_map, Option, Some, None, slice_get, get_or, set, length, nat_lt}
use Rattle.std.specs.List.{filter_map, range_with_len}
use Rattle.std.specs.Option.{option_map, unwrap_or}
use Rattle.ext_tree.specs.declared.node.Node.{Node}
use Rattle.ext_tree.specs.declared.node.Node.TheVariants.{Input, Field, Init}
use Rattle.ext_tree.specs.Unfolding.{compartment_in}

-- facet of an input
abbrev pub facet_in : Option Node → Option ℕ
facet_in (Some (Input facet)) = Some facet
facet_in _ = None

-- field of a field's node, its init included
abbrev pub field_in : Option Node → Option ℕ
field_in (Some (Field field)) = Some field
field_in (Some (Init field)) = Some field
field_in _ = None

-- is: whether there is an id, and it is this one
abbrev pub is_id : ℕ → Option ℕ → Bool
is_id i found = unwrap_or (option_map (eqb i) found) false

-- inputs of a facet: its input nodes in the order of some nodes
abbrev pub inputs_of : List Node → ℕ → List ℕ → List ℕ
inputs_of nodes facet ns = filter (λ (n : ℕ). is_id facet (facet_in (slice_get nodes n))) ns

-- node of a field: the first of its nodes in the order of some nodes, none where the field is absent
abbrev pub node_of_field : List Node → ℕ → List ℕ → Option ℕ
node_of_field nodes field ns = find (λ (n : ℕ). is_id field (field_in (slice_get nodes n))) ns

-- input lists: the inputs of each facet less than a count
abbrev pub input_lists : List Node → ℕ → List ℕ → List (List ℕ)
input_lists nodes facets ns = map (λ (facet : ℕ). inputs_of nodes facet ns) (range_with_len 0 facets)

-- field nodes: the node of each field less than a count
abbrev pub field_nodes : List Node → ℕ → List ℕ → List (Option ℕ)
field_nodes nodes fields ns = map (λ (field : ℕ). node_of_field nodes field ns) (range_with_len 0 fields)

-- compartments of some slots
abbrev pub compartments_of : List Node → List ℕ → List ℕ
compartments_of nodes slots = filter_map (λ (n : ℕ). compartment_in (slice_get nodes n)) slots

-- placed: an input stands at the end of its facet's list, where there is one
abbrev pub placed : List (List ℕ) → Option ℕ → ℕ → List (List ℕ)
placed lists None n = lists
placed lists (Some facet) n = cond (nat_lt facet (length lists)) (set lists facet (get_or lists facet [] ++ n ∷ [])) lists

-- noted: a node is noted for its field, where the field has a place and no node yet
abbrev pub noted : List (Option ℕ) → Option ℕ → ℕ → List (Option ℕ)
noted found None n = found
noted found (Some field) n = cond (nat_lt field (length found)) (set found field (Some (unwrap_or (get_or found field None) n))) found
