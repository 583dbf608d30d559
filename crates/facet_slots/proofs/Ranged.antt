-- When what is held and what is shown of it is in range.
use Rattle.std.proofs.Common.{ℕ, zero, suc, List, [], ◌∷◌, Option, Some, None, map, slice_get, IfSome}
use Rattle.std.specs.Option.{option_flatten}
use Rattle.configuration.specs.declared.vertex.Vertex.{Vertex}
use Rattle.configuration.specs.declared.vertex.Vertex.TheVariants.{Facet, Field}
use Rattle.values.specs.declared.val.Val.{Val}
use Rattle.values.specs.InRange.{AreInRange, IsInRange}
use Rattle.facet_slots.specs.Scenes.{Values, IsEachInRange}
use Rattle.facet_slots.specs.Keeping.{held}

pub shown-in-range : (values : Values) → IsEachInRange values → (vs : List Vertex) → AreInRange (map values vs)
shown-in-range values each [] = tt
shown-in-range values each (v ∷ vs) = (each v, shown-in-range values each vs)

pub get-in-range : (xs : List (Option Val)) → AreInRange xs → (i : ℕ) → IfSome (option_flatten (slice_get xs i)) IsInRange
get-in-range [] h i = tt
get-in-range (x ∷ xs) h zero = h.0
get-in-range (x ∷ xs) h (suc i) = get-in-range xs h.1 i

pub held-in-range : (facets fields : List (Option Val)) → AreInRange facets → AreInRange fields → IsEachInRange (held facets fields)
held-in-range facets fields a b (Facet f) = get-in-range facets a f
held-in-range facets fields a b (Field f) = get-in-range fields b f
