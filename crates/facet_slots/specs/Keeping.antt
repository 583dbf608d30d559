-- What is kept of a state: the values and, of each facet, what its inputs gave.
use Rattle.std.specs.Prelude.{◌≡◌, ◌<◌, ℕ, List, [], length, map, slice_get, Option, None, Some, ◌⊎◌}
use Rattle.std.specs.Option.{option_flatten, option_map, unwrap_or}
use Rattle.configuration.specs.declared.vertex.Vertex.{Vertex}
use Rattle.configuration.specs.declared.vertex.Vertex.TheVariants.{Facet, Field}
use Rattle.values.specs.declared.val.Val.{Val}
use Rattle.values.specs.Rules.{Rules}
use Rattle.facet_slots.specs.Setups.{Setup, PresentFacet, facet_at, field_at, order_of}
use Rattle.facet_slots.specs.Scenes.{SceneView, Values}
use Rattle.facet_slots.specs.FacetValues.{facet_value, node_outputs}
use Rattle.facet_slots.specs.Stepping.{State}
use Rattle.facet_slots.specs.Lawful.{FieldsFit}

-- the values that lists of facets and of fields hold
abbrev pub held : List (Option Val) → List (Option Val) → Values
held facets fields (Facet f) = option_flatten (slice_get facets f)
held facets fields (Field f) = option_flatten (slice_get fields f)

-- what is held of a facet's inputs, for each node in flat order
abbrev pub held_inputs : List (List (List Val)) → Vertex → List (List Val)
held_inputs inputs (Facet f) = unwrap_or (slice_get inputs f) []
held_inputs inputs (Field f) = []

-- what the inputs of each facet give in some values
abbrev pub inputs_of : Rules → Setup → SceneView → Values → Vertex → List (List Val)
inputs_of rules setup scene values (Facet f) = unwrap_or (option_map (λ (facet : PresentFacet). map (node_outputs rules scene values) facet.inputs) (facet_at setup f)) []
inputs_of rules setup scene values (Field f) = []

-- there is a place for each value, and for what each facet's inputs give
pub record HasRoom (setup : Setup) (facets fields : List (Option Val)) (inputs : List (List (List Val))) : Type 0 where
  pub facets_fit : length facets ≡ length setup.defs.facets
  pub fields_fit : length fields ≡ length setup.config.fields
  pub inputs_fit : length inputs ≡ length setup.defs.facets

-- Kept: what is kept is of one state. Each facet's value and inputs are those that the field values, the document, the
-- selection and the other facets give.
pub record IsKept (rules : Rules) (setup : Setup) (scene : SceneView) (facets fields : List (Option Val)) (inputs : List (List (List Val))) : Type 0 where
  pub room : HasRoom setup facets fields inputs
  pub combined : (f : ℕ) → held facets fields (Facet f) ≡ option_map (facet_value rules scene (held facets fields)) (facet_at setup f)
  pub inputs_kept : (f : ℕ) → held_inputs inputs (Facet f) ≡ inputs_of rules setup scene (held facets fields) (Facet f)
  pub fields_fit : FieldsFit rules setup (held facets fields)
  pub absent : (f : ℕ) → field_at setup f ≡ None → held facets fields (Field f) ≡ None

-- the state of what is kept
abbrev pub state_of : Setup → SceneView → List (Option Val) → List (Option Val) → State
state_of setup scene facets fields = record { setup = setup; scene = scene; values = held facets fields }

-- a value is put at a facet or field, and the others stay
pub record Puts {R : Type 0} (old new : Vertex → R) (v : Vertex) (x : R) : Type 0 where
  pub here : new v ≡ x
  pub others : (w : Vertex) → (w ≡ v) ⊎ (new w ≡ old w)

-- those before a place of the order have what is wanted
abbrev pub AreKnown : {R : Type 0} → Setup → (Vertex → R) → (Vertex → R) → ℕ → Type 0
AreKnown {R} setup values wanted i = (k : ℕ) (v : Vertex) → k < i → slice_get (order_of setup) k ≡ Some v → values v ≡ wanted v

-- what is put for the inputs of a facet or field
abbrev pub inputs_put : Vertex → List (List Val) → List (List Val)
inputs_put (Facet f) inputs = inputs
inputs_put (Field f) inputs = []
