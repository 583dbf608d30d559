use Rattle.std.specs.Prelude.{ℕ, List, Option, Some, None}
use Rattle.dep_graph.specs.declared.order_error.OrderError.{OrderError}
use Rattle.dep_graph.specs.declared.order_error.OrderError.TheVariants.{NoMemory, Cycle}

-- members of an error: those of the circle that it names, none when out of memory
abbrev pub members_of : OrderError → Option (List ℕ)
members_of NoMemory = None
members_of (Cycle members) = Some members.items
