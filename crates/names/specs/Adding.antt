-- What it is to declare a thing under a name that is free: with the name and with the thing, or what the registry refuses, with
-- ids as the names that a command has for them.
use Rattle.std.specs.Prelude.{ℕ, List, length, Option, Result, Ok, option_and_then}
use Rattle.configuration.specs.declared.node_def.NodeDef.TheVariants as defs
use Rattle.ext_tree.specs.declared.node.Node.TheVariants as nodes
use Rattle.names.specs.Names.{NameList, with_name}
use Rattle.names.specs.RegistryRefusals.{registry_refusal}
use Rattle.names.specs.declared.named.Named.{Named}
use Rattle.names.specs.declared.named.Named.TheVariants.{Compartment, Effect, Facet, Node}
use Rattle.names.specs.declared.new_thing.NewThing.{NewThing}
use Rattle.names.specs.declared.new_thing.NewThing.TheVariants as new
use Rattle.registry.specs.declared.registry_error.RegistryError.{RegistryError}
use Rattle.registry.specs.Refusals.{first_of, compartment_refusals, compute_n_refusals, compute_refusals, effect_refusals, facet_refusals, from_refusals, group_refusals, init_refusals, input_refusals, prec_refusals, slot_refusals}
use Rattle.script.specs.declared.refusal.Refusal.{Refusal}
use Rattle.script.specs.Reading.{◌>>=◌}
use Rattle.script.specs.Refused.{unless}
use Rattle.values.specs.Declarations.{Declarations, with_compartment, with_effect, with_facet, with_node}
use Rattle.values.specs.Rules.{Rules}

-- the names, and what is declared
pub record World : Type 0 where
  pub names : NameList
  pub declared : Declarations

-- the names and the declarations together
abbrev pub world : NameList → Declarations → World
world names declared = record { names = names; declared = declared }

-- what is declared next, unless the registry refuses it; then ids are written by these names
abbrev pub passing : (ℕ → List ℕ) → Option RegistryError → Declarations → Result Declarations Refusal
passing names refusal next = unless (option_and_then (registry_refusal names) refusal) next

-- with the next name for a thing, and what is declared next, unless the registry refuses it
abbrev pub with_thing : World → List ℕ → Named → (ℕ → List ℕ) → List (Option RegistryError) → Declarations → Result World Refusal
with_thing w name thing names rs next =
    passing names (first_of rs) next >>= λ declared. Ok (world (with_name w.names name thing) declared)

-- refusals of a thing that is to be declared
abbrev pub new_refusals : Rules → Declarations → NewThing → List (Option RegistryError)
new_refusals rules d (new.Effect number) = effect_refusals rules d number
new_refusals rules d (new.Facet def enables) = facet_refusals rules d def enables
new_refusals rules d new.Compartment = compartment_refusals d
new_refusals rules d (new.Input facet value) = input_refusals rules d facet value
new_refusals rules d (new.Compute facet rule rs) = compute_refusals rules d facet rule rs
new_refusals rules d (new.ComputeN facet rule rs) = compute_n_refusals rules d facet rule rs
new_refusals rules d (new.From facet field rule) = from_refusals rules d facet field rule
new_refusals rules d (new.Init field value) = init_refusals rules d field value
new_refusals rules d (new.Group of) = group_refusals d of
new_refusals rules d (new.Prec at of) = prec_refusals d of
new_refusals rules d (new.Slot compartment of) = slot_refusals d compartment of

-- with it
abbrev pub with_new : Declarations → NewThing → Declarations
with_new d (new.Effect number) = with_effect d number
with_new d (new.Facet def enables) = with_facet d def enables
with_new d new.Compartment = with_compartment d
with_new d (new.Input facet value) = with_node d (nodes.Input facet) (defs.Of value)
with_new d (new.Compute facet rule rs) = with_node d (nodes.Input facet) (defs.Compute rule rs)
with_new d (new.ComputeN facet rule rs) = with_node d (nodes.Input facet) (defs.ComputeN rule rs)
with_new d (new.From facet field rule) = with_node d (nodes.Input facet) (defs.From field rule)
with_new d (new.Init field value) = with_node d (nodes.Init field) (defs.Init value)
with_new d (new.Group of) = with_node d (nodes.Group of) defs.Branch
with_new d (new.Prec at of) = with_node d (nodes.Prec at of) defs.Branch
with_new d (new.Slot compartment of) = with_node d (nodes.Slot compartment of) defs.Branch

-- what its name stands for: the next id of its sort
abbrev pub next_named : Declarations → NewThing → Named
next_named d (new.Effect number) = Effect (length d.maps)
next_named d (new.Facet def enables) = Facet (length d.facets)
next_named d new.Compartment = Compartment d.compartments
next_named d thing = Node (length d.nodes)

-- a thing of this name; where it is refused, ids are written as the other name
abbrev pub new_in : Rules → World → (name other : List ℕ) → NewThing → Result World Refusal
new_in rules w name other thing = with_thing w name (next_named w.declared thing) (λ id. other) (new_refusals rules w.declared thing) (with_new w.declared thing)
