-- What depends on what, and that an order goes along the dependencies.
use Rattle.std.specs.Prelude.{◌≡◌, ◌<◌, ◌≤◌, ℕ, List, [], ◌∷◌, Some, length, slice_get, All, MatchOption, ⊤}
use Rattle.configuration.specs.declared.dependency.Dependency.{Dependency}
use Rattle.configuration.specs.declared.dependency.Dependency.TheVariants as dependency
use Rattle.configuration.specs.declared.vertex.Vertex.{Vertex}
use Rattle.configuration.specs.declared.vertex.Vertex.TheVariants.{Facet, Field}
use Rattle.configuration.specs.Pairs.{reads_of}
use Rattle.facet_slots.specs.Setups.{Setup, InputNode, PresentFacet, PresentField, facet_at, field_at, order_of, vertex_count}

module _ (P : Vertex → Type 0) where
  -- P holds of each facet and field that is declared
  abbrev pub AllReads : List Dependency → Type 0
  AllReads [] = ⊤
  AllReads (dependency.Doc ∷ reads) = AllReads reads
  AllReads (dependency.Selection ∷ reads) = AllReads reads
  AllReads (dependency.Facet f ∷ reads) = P (Facet f) × AllReads reads
  AllReads (dependency.Field f ∷ reads) = P (Field f) × AllReads reads

  -- and of each that the inputs declare
  abbrev pub AllInputs : List InputNode → Type 0
  AllInputs [] = ⊤
  AllInputs (i ∷ is) = AllReads (reads_of i.input) × AllInputs is

  -- and of each that a facet or field depends on; an absent field depends on nothing
  abbrev pub AllNeeds : Setup → Vertex → Type 0
  AllNeeds setup (Facet f) = MatchOption (facet_at setup f) ⊤ (λ (facet : PresentFacet). AllInputs facet.inputs)
  AllNeeds setup (Field f) = MatchOption (field_at setup f) ⊤ (λ (field : PresentField). AllReads field.def.reads)

-- v stands in the list before the place i
abbrev pub StandsBefore : List Vertex → ℕ → Vertex → Type 0
StandsBefore order i v = (k : ℕ) × (k < i) × (slice_get order k ≡ Some v)

-- a facet that is declared, or a field that was when the configuration was resolved
abbrev pub IsVertex : Setup → Vertex → Type 0
IsVertex setup (Facet f) = f < length setup.defs.facets
IsVertex setup (Field f) = f < length setup.config.fields

-- Ordered: the order has each facet and field, after those that it depends on.
pub record IsOrdered (setup : Setup) : Type 0 where
  pub short : length (order_of setup) ≤ vertex_count setup
  pub known : All (IsVertex setup) (order_of setup)
  pub complete : (v : Vertex) → IsVertex setup v → StandsBefore (order_of setup) (length (order_of setup)) v
  pub after : (i : ℕ) (v : Vertex) → slice_get (order_of setup) i ≡ Some v → AllNeeds (StandsBefore (order_of setup) i) setup v
