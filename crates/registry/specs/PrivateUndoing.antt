-- What undoes a field that is half made. Private.
use Rattle.std.specs.Prelude.{◌≡◌, ℕ, List, take}
use Rattle.values.specs.Declarations.{Declarations}
use Rattle.registry.specs.declared.provided.Provided.{Provided}
use Rattle.registry.specs.WholeFields.{with_inputs_from}

-- shortened: with the first fields and nodes alone, so many of each
abbrev pub shortened : Declarations → (fields nodes : ℕ) → Declarations
shortened d fields nodes =
    record d { fields = take fields d.fields; nodes = take nodes d.nodes; node_defs = take nodes d.node_defs; links = record d.links { provided = take fields d.links.provided }; placed = take fields d.placed }

-- begun: with some inputs from a field, and no more
abbrev pub IsBegun : Declarations → ℕ → Declarations → Type 0
IsBegun old field new = (made : List Provided) × (new ≡ with_inputs_from old field made)
