-- What is lent of a configuration, a field and a transition, and what is kept of a state, as plain data.
use Rattle.std.specs.Prelude.{ℕ, List, map, option_copied}
use Rattle.std.specs.Option.{unwrap_or}
use Rattle.configuration.specs.declared.defs.Defs.{Defs}
use Rattle.values.specs.declared.val.Val.{Val}
use Rattle.configuration.specs.declared.facet_def.FacetDef.{FacetDef}
use Rattle.values.specs.Declarations.{Declarations}
use Rattle.values.specs.Rules.{Rules}
use Rattle.facet_slots.specs.declared.before.Before.{Before}
use Rattle.facet_slots.specs.declared.kept.Kept.{Kept}
use Rattle.facet_slots.specs.declared.setup.Setup.{Setup as LentSetup}
use Rattle.facet_slots.specs.declared.setup.Present.{Present}
use Rattle.facet_slots.specs.declared.transition.Transition.{Transition as LentTransition}
use Rattle.facet_slots.specs.declared.transition.Transition.TheVariants as lent
use Rattle.facet_slots.specs.Setups.{Definitions, Setup, InputNode, PresentFacet, PresentField, input_node, inputs_at}
use Rattle.facet_slots.specs.Scenes.{SceneView, Values}
use Rattle.facet_slots.specs.Stepping.{State, Transition, Enter, Update, no_setup}
use Rattle.facet_slots.specs.Keeping.{held, state_of, HasRoom, IsKept}
use Rattle.facet_slots.specs.Found.{scene_of}
use Rattle.facet_slots.specs.Flags.{Flags}
use Rattle.facet_slots.specs.Nexts.{flagged, HasFlagRoom}

-- definitions without what leaves are followed by
abbrev pub defs_of : Defs Val → Definitions
defs_of defs = record { facets = defs.facets; fields = defs.fields; node_defs = defs.node_defs }

-- the definitions that a registry holds
abbrev pub definitions : Declarations → Definitions
definitions d = record { facets = d.facets; fields = d.fields; node_defs = d.node_defs }

abbrev pub setup_of : LentSetup → Setup
setup_of s = record { defs = defs_of s.defs.now; config = unwrap_or (option_copied s.config) no_setup.config }

abbrev pub present_of : Present → PresentField
present_of p = record { def = p.def.now; init = option_copied p.init }

abbrev pub transition_of : LentTransition → Transition
transition_of lent.Enter = Enter
transition_of (lent.Update t) = Update t.now

-- the values that are kept
abbrev pub values_in : Kept → Values
values_in kept = held kept.shelf.facets kept.shelf.fields

-- the state that is kept
abbrev pub state_in : LentSetup → Kept → State
state_in setup kept = state_of (setup_of setup) (scene_of kept.scene) kept.shelf.facets kept.shelf.fields

-- the document and the selection of what is kept
abbrev pub scene_in : Kept → SceneView
scene_in kept = scene_of kept.scene

-- the flags of facets and fields
abbrev pub flags_in : Kept → Flags
flags_in kept = flagged kept.shelf.facet_flags kept.shelf.field_flags

-- the input nodes that a facet had
abbrev pub nodes_before : Before → List InputNode
nodes_before before = map (input_node before.node_defs.now) before.nodes.now

-- a facet as it was
abbrev pub facet_before : Before → PresentFacet
facet_before before = record { def = before.def.now; inputs = nodes_before before }

-- a facet of a configuration, by its definition
abbrev pub facet_in : LentSetup → FacetDef → ℕ → PresentFacet
facet_in setup def facet = record { def = def; inputs = inputs_at (setup_of setup) facet }

-- what is kept is of one state
abbrev pub IsKeptIn : Rules → LentSetup → Kept → Type 0
IsKeptIn rules setup kept = IsKept rules (setup_of setup) (scene_in kept) kept.shelf.facets kept.shelf.fields kept.shelf.inputs

-- there is a place for each value, and for what each facet's inputs give
abbrev pub HasRoomIn : LentSetup → Kept → Type 0
HasRoomIn setup kept = HasRoom (setup_of setup) kept.shelf.facets kept.shelf.fields kept.shelf.inputs

-- and for each flag
abbrev pub HasFlagRoomIn : LentSetup → Kept → Type 0
HasFlagRoomIn setup kept = HasFlagRoom (setup_of setup) kept.shelf.facet_flags kept.shelf.field_flags
