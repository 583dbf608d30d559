-- When what is declared is lawful: each rule number is one of its sort, each id is declared, each value and each output fits.
use Rattle.std.specs.Prelude.{◌≡◌, ℕ, ◌<◌, ◌≤◌, List, [], ◌∷◌, Bool, true, false, ◌&&◌, ◌||◌, eqb, Option, Some, None, length, slice_get, ⊤}
use Rattle.std.specs.List.{AllByRecursion}
use Rattle.cm_plain.specs.Form.{Form, fits}
use Rattle.configuration.specs.declared.dependency.Dependency.{Dependency}
use Rattle.configuration.specs.declared.dependency.Dependency.TheVariants as reads
use Rattle.configuration.specs.declared.facet_def.FacetDef.{FacetDef}
use Rattle.configuration.specs.declared.field_def.FieldDef.{FieldDef}
use Rattle.configuration.specs.declared.node_def.NodeDef.{NodeDef}
use Rattle.configuration.specs.declared.node_def.NodeDef.TheVariants as defs
use Rattle.configuration.specs.Present.{field_in}
use Rattle.ext_tree.specs.declared.node.Node.{Node}
use Rattle.ext_tree.specs.declared.node.Node.TheVariants as nodes
use Rattle.ext_tree.specs.Tree.{AreLinksOlder, IsOlder, listed}
use Rattle.transaction.specs.Effects.{map_of}
use Rattle.transaction.specs.Numbers.{IsNumber}
use Rattle.values.specs.declared.val.Val.{Val}
use Rattle.values.specs.Rules.{Rules}
use Rattle.values.specs.Vals.{IsOf}
use Rattle.values.specs.Declarations.{Declarations, is_placed, max_count}

-- each entry of a list, by its id, is of a sort
abbrev pub AllAt : {X : Type 0} → (X → Type 0) → List X → Type 0
AllAt {X} P xs = (id : ℕ) (x : X) → slice_get xs id ≡ Some x → P x

-- a read names the document, the selection, or a declared facet or field
abbrev pub IsRead : Declarations → Dependency → Type 0
IsRead d reads.Doc = ⊤
IsRead d reads.Selection = ⊤
IsRead d (reads.Facet facet) = facet < length d.facets
IsRead d (reads.Field field) = field < length d.fields

-- lawful facet: each of its numbers is one of its sort
pub record IsLawfulFacet (rules : Rules) (def : FacetDef) : Type 0 where
  pub combine : IsNumber rules.combiners def.combine
  pub compare_input : IsNumber rules.comparers def.compare_input
  pub compare : IsNumber rules.comparers def.compare

-- lawful field: each of its numbers is one of its sort, what its creator gives fits its updater, and what it reads and
-- listens to is declared
pub record IsLawfulField (rules : Rules) (d : Declarations) (def : FieldDef) : Type 0 where
  pub create : IsNumber rules.creators def.create
  pub update : IsNumber rules.updaters def.update
  pub compare : IsNumber rules.comparers def.compare
  pub created_fits : fits (rules.create_output def.create) (rules.update_shape def.update) ≡ true
  pub reads : AllByRecursion (IsRead d) def.reads
  pub listens : AllByRecursion (IsOlder (length d.maps)) def.listens

-- lawful computed input of a facet: the facet isn't static, the number is one of its sort, what the rule gives fits the
-- facet's combiner, and what it reads is declared
pub record IsComputed (rules : Rules) (d : Declarations) (facet : FacetDef) (count : ℕ) (output : ℕ → Form) (rule : ℕ) (rs : List Dependency) : Type 0 where
  pub not_static : facet.is_static ≡ false
  pub is_rule : IsNumber count rule
  pub output_fits : fits (output rule) (rules.combine_input facet.combine) ≡ true
  pub reads : AllByRecursion (IsRead d) rs

-- lawful input of a facet that is declared: its value is of the shape that the facet's combiner takes, or it is computed
abbrev pub IsInput : Rules → Declarations → Option FacetDef → NodeDef Val → Type 0
IsInput rules d (Some facet) (defs.Of value) = IsOf (rules.combine_input facet.combine) value
IsInput rules d (Some facet) (defs.Compute rule rs) = IsComputed rules d facet rules.computers rules.compute_output rule rs
IsInput rules d (Some facet) (defs.ComputeN rule rs) = IsComputed rules d facet rules.list_computers rules.list_output rule rs
IsInput rules d (Some facet) (defs.From field rule) = IsComputed rules d facet rules.computers rules.compute_output rule (reads.Field field ∷ [])
IsInput rules d facet def = ⊥

-- lawful init of a field that is declared: its value is of the shape that the field's updater takes
abbrev pub IsInit : Rules → Option FieldDef → Val → Type 0
IsInit rules (Some def) value = IsOf (rules.update_shape def.update) value
IsInit rules None value = ⊥

-- a node has its definition, and that is lawful
abbrev pub IsDefined : Rules → Declarations → Node → Option (NodeDef Val) → Type 0
IsDefined rules d (nodes.Group of) (Some defs.Branch) = ⊤
IsDefined rules d (nodes.Prec at of) (Some defs.Branch) = ⊤
IsDefined rules d (nodes.Slot compartment content) (Some defs.Branch) = compartment < d.compartments
IsDefined rules d (nodes.Input facet) (Some def) = IsInput rules d (slice_get d.facets facet) def
IsDefined rules d (nodes.Field field) (Some defs.Field) = field < length d.fields
IsDefined rules d (nodes.Init field) (Some (defs.Init value)) = IsInit rules (slice_get d.fields field) value
IsDefined rules d node def = ⊥

-- map number of an effect kind, if it has one
abbrev pub IsMap : Rules → Option ℕ → Type 0
IsMap rules None = ⊤
IsMap rules (Some number) = IsNumber rules.effect_maps number

-- inverse maps of two effect kinds: none of both, or one whose number is 1 or 2 (Reference Manual, invertedEffects)
abbrev pub are_inverse : Option ℕ → Option ℕ → Bool
are_inverse None None = true
are_inverse (Some map) (Some back) = eqb map back && (eqb map 1 || eqb map 2)
are_inverse map back = false

-- pair of an effect kind, by the maps and the pairs of all kinds: a declared kind whose own pair is the first one, and whose
-- map undoes its map
pub record IsPair (maps pairs : List (Option ℕ)) (effect back : ℕ) : Type 0 where
  pub declared : back < length maps
  pub paired_back : map_of pairs back ≡ Some effect
  pub inverse : are_inverse (map_of maps effect) (map_of maps back) ≡ true

-- each pair is lawful
abbrev pub ArePairs : (maps pairs : List (Option ℕ)) → Type 0
ArePairs maps pairs = (effect back : ℕ) → map_of pairs effect ≡ Some back → IsPair maps pairs effect back

-- lists of links name nodes that are there
abbrev pub AreKnown : Declarations → List (List ℕ) → Type 0
AreKnown d lists = (i : ℕ) → AllByRecursion (IsOlder (length d.nodes)) (listed lists i)

-- lists by id have one entry for each id
pub record AreAligned (d : Declarations) : Type 0 where
  pub node_defs : length d.node_defs ≡ length d.nodes
  pub enabled : length d.links.enabled ≡ length d.facets
  pub provided : length d.links.provided ≡ length d.fields
  pub placed : length d.placed ≡ length d.fields
  pub pairs : length d.pairs ≡ length d.maps

-- what leaves are followed by is older than they are; a field that isn't placed has no node
pub record AreLinked (d : Declarations) : Type 0 where
  pub older : AreLinksOlder d.nodes d.links
  pub enabled : AreKnown d d.links.enabled
  pub provided : AreKnown d d.links.provided
  pub placed : (n field : ℕ) → field_in (slice_get d.nodes n) ≡ Some field → is_placed d field ≡ true

-- within the limits
pub record AreWithin (d : Declarations) : Type 0 where
  pub facets : length d.facets ≤ max_count
  pub fields : length d.fields ≤ max_count
  pub nodes : length d.nodes ≤ max_count
  pub effects : length d.maps ≤ max_count
  pub compartments : d.compartments ≤ max_count

-- lawful: each facet, field, node, effect kind and pair is
pub record IsLawful (rules : Rules) (d : Declarations) : Type 0 where
  pub facets : AllAt (IsLawfulFacet rules) d.facets
  pub fields : AllAt (IsLawfulField rules d) d.fields
  pub nodes : (n : ℕ) (node : Node) → slice_get d.nodes n ≡ Some node → IsDefined rules d node (slice_get d.node_defs n)
  pub maps : AllAt (IsMap rules) d.maps
  pub pairs : ArePairs d.maps d.pairs
  pub aligned : AreAligned d
  pub linked : AreLinked d
  pub within : AreWithin d
