-- The slots of a state, as plain data, and what they keep to.
use Rattle.std.specs.Prelude.{List, Option}
use Rattle.values.specs.declared.val.Val.{Val}
use Rattle.values.specs.Rules.{Rules}
use Rattle.facet_slots.specs.Setups.{Setup}
use Rattle.facet_slots.specs.Scenes.{SceneView, IsEachInRange, IsScene}
use Rattle.facet_slots.specs.Stepping.{State}
use Rattle.facet_slots.specs.Lawful.{IsLawful}
use Rattle.facet_slots.specs.Resolving.{IsResolved}
use Rattle.facet_slots.specs.Keeping.{held, state_of, IsKept}

-- Slots: a configuration over its definitions, a document with its selection, and the values of facets and fields by id.
pub record Slotted : Type 0 where
  pub setup : Setup
  pub scene : SceneView
  pub facets : List (Option Val)
  pub fields : List (Option Val)

-- the state of the slots
abbrev pub plain : Slotted → State
plain s = state_of s.setup s.scene s.facets s.fields

-- what slots keep to: the configuration was resolved over the definitions or ones that these have grown from, these are lawful,
-- the selection is one of the document, and each facet value and each kept input is that of the one state that these and the
-- field values make, and the numbers of all values are in range
pub record AreSlots (rules : Rules) (setup : Setup) (scene : SceneView) (facets fields : List (Option Val)) (inputs : List (List (List Val))) : Type 0 where
  pub resolved : IsResolved setup
  pub lawful : IsLawful rules setup
  pub is_scene : IsScene scene
  pub kept : IsKept rules setup scene facets fields inputs
  pub in_range : IsEachInRange (held facets fields)
