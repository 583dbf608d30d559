-- A field that is declared and placed at once, with the inputs of facets that it provides.
use Rattle.std.specs.Prelude.{ℕ, List, [], ◌∷◌, Option, length}
use Rattle.std.specs.List.{range_with_len}
use Rattle.configuration.specs.declared.field_def.FieldDef.{FieldDef}
use Rattle.configuration.specs.declared.node_def.NodeDef.TheVariants as defs
use Rattle.ext_tree.specs.declared.node.Node.TheVariants as nodes
use Rattle.values.specs.Declarations.{Declarations, with_field, with_node, with_placed}
use Rattle.values.specs.Rules.{Rules}
use Rattle.registry.specs.declared.provided.Provided.{Provided}
use Rattle.registry.specs.declared.registry_error.RegistryError.{RegistryError}
use Rattle.registry.specs.Refusals.{field_refusals, first_of, from_refusals, place_refusals}

-- with the input of a facet that a rule computes from a field (Reference Manual, Facet.from)
abbrev pub with_input_from : Declarations → ℕ → Provided → Declarations
with_input_from d field p = with_node d (nodes.Input p.facet) (defs.From field p.rule)

-- with such inputs, in order
abbrev pub with_inputs_from : Declarations → ℕ → List Provided → Declarations
with_inputs_from d field [] = d
with_inputs_from d field (p ∷ ps) = with_inputs_from (with_input_from d field p) field ps

-- the ids of the next nodes, as many as there are such inputs
abbrev pub next_nodes : Declarations → List Provided → List ℕ
next_nodes d ps = range_with_len (length d.nodes) (length ps)

-- provided: with such inputs of a field, and its node, which provides them (Reference Manual, StateField.define, provide)
abbrev pub with_provided : Declarations → ℕ → List Provided → Declarations
with_provided d field ps = with_placed (with_inputs_from d field ps) field (next_nodes d ps)

-- Whole field: the next field, with what it provides.
abbrev pub with_whole_field : Declarations → FieldDef → List Provided → Declarations
with_whole_field d def ps = with_provided (with_field d def) (length d.fields) ps

-- refusals of such inputs, each after those before it
abbrev pub inputs_refusals : Rules → Declarations → ℕ → List Provided → List (Option RegistryError)
inputs_refusals rules d field [] = []
inputs_refusals rules d field (p ∷ ps) = first_of (from_refusals rules d p.facet field p.rule) ∷ inputs_refusals rules (with_input_from d field p) field ps

-- what a field provides: its inputs; placing it
abbrev pub provided_refusals : Rules → Declarations → ℕ → List Provided → List (Option RegistryError)
provided_refusals rules d field ps =
    first_of (inputs_refusals rules d field ps) ∷ first_of (place_refusals (with_inputs_from d field ps) field (next_nodes d ps)) ∷ []

-- whole field: declaring it; what it provides
abbrev pub whole_field_refusals : Rules → Declarations → FieldDef → List Provided → List (Option RegistryError)
whole_field_refusals rules d def ps =
    first_of (field_refusals rules d def) ∷ first_of (provided_refusals rules (with_field d def) (length d.fields) ps) ∷ []
