-- What is found next of what was kept: only what is due is computed.
use Rattle.std.specs.Prelude.{◌≡◌, ℕ, ◌+◌, List, [], ◌∷◌, Bool, true, false, not, ◌&&◌, ◌||◌, cond, eqb, map, length, slice_get, Option, None, Some, is_none, IsSomeAnd}
use Rattle.std.specs.Option.{option_map, unwrap_or}
use Rattle.std.specs.List.{list_any}
use Rattle.configuration.specs.declared.vertex.Vertex.{Vertex}
use Rattle.configuration.specs.declared.vertex.Vertex.TheVariants.{Facet, Field}
use Rattle.configuration.specs.Pairs.{reads_of}
use Rattle.values.specs.declared.val.Val.{Val}
use Rattle.values.specs.Rules.{Rules}
use Rattle.values.specs.Reading.{nothing}
use Rattle.facet_slots.specs.Setups.{Setup, InputNode, PresentFacet, PresentField, facet_at, field_at}
use Rattle.facet_slots.specs.Scenes.{SceneView, Values}
use Rattle.facet_slots.specs.FacetValues.{node_outputs, joined}
use Rattle.facet_slots.specs.Settling.{field_value}
use Rattle.facet_slots.specs.Stepping.{State, Transition, rule_of}
use Rattle.facet_slots.specs.declared.scene_flags.SceneFlags.{SceneFlags}
use Rattle.facet_slots.specs.Flags.{Flags, any_flagged, same_outputs, same_value, same_nodes, field_flag}
use Rattle.facet_slots.specs.Due.{call_of, inputs_before, field_calls}

-- what a node gave before
abbrev pub kept_outputs : ℕ → List InputNode → List (List Val) → Option (List Val)
kept_outputs n [] ks = None
kept_outputs n (i ∷ is) [] = None
kept_outputs n (i ∷ is) (k ∷ ks) = cond (eqb i.node n) (Some k) (kept_outputs n is ks)

-- whether a dependency that an input declares is flagged
abbrev pub input_flagged : SceneFlags → Flags → InputNode → Bool
input_flagged moved flags node = any_flagged moved flags (reads_of node.input)

module _ (rules : Rules) (scene : SceneView) (moved : SceneFlags) (flags : Flags) (values : Values) where
  -- what a node gives next, from what it gave before
  abbrev pub next_from : InputNode → Option (List Val) → List Val
  next_from node None = node_outputs rules scene values node
  next_from node (Some k) = cond (any_flagged moved flags (reads_of node.input)) (node_outputs rules scene values node) k

  -- whether it was due and is not known to be the same
  abbrev pub changed_from : ℕ → InputNode → Option (List Val) → Bool
  changed_from compare node None = true
  changed_from compare node (Some k) = any_flagged moved flags (reads_of node.input) && not (same_outputs rules compare k (node_outputs rules scene values node))

  abbrev pub next_outputs : List InputNode → List (List Val) → InputNode → List Val
  next_outputs was kept node = next_from node (kept_outputs node.node was kept)

  abbrev pub next_changed : ℕ → List InputNode → List (List Val) → InputNode → Bool
  next_changed compare was kept node = changed_from compare node (kept_outputs node.node was kept)

  -- whether the facet is combined anew
  abbrev pub next_due : Option PresentFacet → List (List Val) → PresentFacet → Bool
  next_due None kept facet = true
  next_due (Some was) kept facet = list_any (next_changed facet.def.compare_input was.inputs kept) facet.inputs || not (same_nodes was.inputs facet.inputs)

  -- a facet after a transition, from what was kept of it
  pub record IsNextFacet (was : Option PresentFacet) (kept : List (List Val)) (old : Option Val) (facet : PresentFacet) (value : Val) (flag : Bool) (inputs : List (List Val)) : Type 0 where
    pub inputs_are : inputs ≡ map (next_outputs (inputs_before was) kept) facet.inputs
    pub value_is : value ≡ cond (next_due was kept facet) (rules.combine facet.def.combine (joined inputs)) (unwrap_or old nothing)
    pub flag_is : flag ≡ (next_due was kept facet && not (same_value rules facet.def.compare old (Some value)))

-- the calls that a facet's inputs take
abbrev pub next_input_calls : SceneFlags → Flags → List InputNode → List (List Val) → InputNode → ℕ
next_input_calls moved flags was kept node = cond (is_none (kept_outputs node.node was kept) || any_flagged moved flags (reads_of node.input)) (call_of node.input) 0

abbrev pub next_count : SceneFlags → Flags → List InputNode → List (List Val) → List InputNode → ℕ
next_count moved flags was kept [] = 0
next_count moved flags was kept (i ∷ is) = next_input_calls moved flags was kept i + next_count moved flags was kept is

-- the flags that are held
abbrev pub flagged : List Bool → List Bool → Flags
flagged facets fields (Facet f) = unwrap_or (slice_get facets f) false
flagged facets fields (Field f) = unwrap_or (slice_get fields f) false

-- the calls that a facet takes
abbrev pub facet_next_calls : Rules → SceneView → SceneFlags → Flags → Values → Option PresentFacet → List (List Val) → PresentFacet → ℕ
facet_next_calls rules scene moved flags values was kept facet = next_count moved flags (inputs_before was) kept facet.inputs + cond (next_due rules scene moved flags values was kept facet) 1 0

-- a field after a transition
pub record IsNextField (rules : Rules) (transition : Transition) (scene : SceneView) (values : Values) (old : State) (f : ℕ) (field : Option PresentField) (value : Option Val) (flag : Bool) : Type 0 where
  pub value_is : value ≡ option_map (field_value scene (rule_of rules transition old) values f) field
  pub flag_is : flag ≡ field_flag rules (field_at old.setup f) field (old.values (Field f)) value

-- a facet or field after a transition
abbrev pub IsNext : Rules → Transition → Setup → SceneView → SceneFlags → Flags → Values → State → (Vertex → List (List Val)) → Vertex → Option Val → Bool → List (List Val) → Type 0
IsNext rules transition setup scene moved flags values old kept (Facet f) value flag inputs =
    (facet : PresentFacet) → facet_at setup f ≡ Some facet → IsSomeAnd value (λ (x : Val). IsNextFacet rules scene moved flags values (facet_at old.setup f) (kept (Facet f)) (old.values (Facet f)) facet x flag inputs)
IsNext rules transition setup scene moved flags values old kept (Field f) value flag inputs = IsNextField rules transition scene values old f (field_at setup f) value flag

-- and the calls that it takes
abbrev pub next_calls : Rules → Transition → Setup → SceneView → SceneFlags → Flags → Values → State → (Vertex → List (List Val)) → Vertex → ℕ
next_calls rules transition setup scene moved flags values old kept (Facet f) = unwrap_or (option_map (facet_next_calls rules scene moved flags values (facet_at old.setup f) (kept (Facet f))) (facet_at setup f)) 0
next_calls rules transition setup scene moved flags values old kept (Field f) = unwrap_or (option_map (field_calls transition old f) (field_at setup f)) 0

-- there is a place for each flag
pub record HasFlagRoom (setup : Setup) (facet_flags field_flags : List Bool) : Type 0 where
  pub facets_fit : length facet_flags ≡ length setup.defs.facets
  pub fields_fit : length field_flags ≡ length setup.config.fields
