-- What the names and the registry keep: each name stands for what is declared, and what a refusal may name has a name.
use Rattle.std.specs.Prelude.{◌≡◌, ℕ, ◌<◌, length, Some, IsSome, slice_get, ⊤}
use Rattle.std.specs.List.{AllByRecursion}
use Rattle.ext_tree.specs.declared.node.Node.TheVariants.{Slot}
use Rattle.names.specs.Names.{NameList, name_of}
use Rattle.names.specs.declared.named.Named.{Named}
use Rattle.names.specs.declared.named.Named.TheVariants.{Doc, Selection, Compartment, Effect, Facet, Field, Node}
use Rattle.registry.specs.declared.id_sort.IdSort.{IdSort}
use Rattle.registry.specs.declared.id_sort.IdSort.TheVariants as sorts
use Rattle.values.specs.Declarations.{Declarations}

-- known: its ids are less than how many of their sort there are
abbrev pub IsKnown : Declarations → Named → Type 0
IsKnown d Doc = ⊤
IsKnown d Selection = ⊤
IsKnown d (Compartment id) = id < d.compartments
IsKnown d (Effect id) = id < length d.maps
IsKnown d (Facet id) = id < length d.facets
IsKnown d (Field field node) = (field < length d.fields) × (node < length d.nodes)
IsKnown d (Node node) = node < length d.nodes

-- all known: each name stands for what is declared
abbrev pub AreKnown : NameList → Declarations → Type 0
AreKnown names d = AllByRecursion (λ e. IsKnown d e.1) names

-- what is known by this id among the things of a sort has a name
abbrev pub HasName : NameList → IdSort → ℕ → Type 0
HasName names sort id = IsSome (name_of sort id names)

-- all named: each facet, field and compartment that is declared, and each slot, has a name
pub record AreNamed (names : NameList) (d : Declarations) : Type 0 where
  pub facets : (id : ℕ) → id < length d.facets → HasName names sorts.Facet id
  pub fields : (id : ℕ) → id < length d.fields → HasName names sorts.Field id
  pub compartments : (id : ℕ) → id < d.compartments → HasName names sorts.Compartment id
  pub slots : (id compartment content : ℕ) → slice_get d.nodes id ≡ Some (Slot compartment content) → HasName names sorts.Node id

-- kept: both
pub record IsKept (names : NameList) (d : Declarations) : Type 0 where
  pub are_known : AreKnown names d
  pub are_named : AreNamed names d
