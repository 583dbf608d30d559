-- The state that a base comes to over a document and a selection (Reference Manual, EditorState.create).
use Rattle.std.specs.Prelude.{◌≡◌, ◌≤◌, ◌+◌, ℕ, List, [], ◌⊎◌}
use Rattle.values.specs.Declarations.{Declarations}
use Rattle.values.specs.Rules.{Rules}
use Rattle.facet_slots.specs.Due.{transition_calls}
use Rattle.facet_slots.specs.Lent.{definitions}
use Rattle.facet_slots.specs.Scenes.{SceneView}
use Rattle.facet_slots.specs.Setups.{Setup}
use Rattle.facet_slots.specs.Stepping.{State, Enter, creation, empty_state}
use Rattle.filters.specs.Shown.{allowed}
use Rattle.state.specs.Cutting.{allows_several}
use Rattle.state.specs.Reconfigured.{IsConfigOf}

-- the setup that a base comes to
pub record IsSetupOf (d : Declarations) (base : List ℕ) (setup : Setup) : Type 0 where
  pub defs : setup.defs ≡ definitions d
  pub config : IsConfigOf d (record { base = base; contents = [] }) setup.config

-- the document with its selection, cut to the main range unless the configuration allows several
abbrev pub start_scene : Rules → Setup → SceneView → SceneView
start_scene rules setup scene = record { document = scene.document; selection = allowed (allows_several (creation rules setup scene)) scene.selection }

-- Created: the state of a setup over a document and a selection, which is cut first.
abbrev pub created_state : Rules → Setup → SceneView → State
created_state rules setup scene = creation rules setup (start_scene rules setup scene)

-- the bound of calls of a creation
abbrev pub creation_calls : Rules → Setup → SceneView → ℕ
creation_calls rules setup scene = transition_calls rules Enter (empty_state (start_scene rules setup scene)) setup

-- nothing was called, or a setup that the base comes to was entered, within its bound
abbrev pub IsCreationPaid : Rules → Declarations → List ℕ → SceneView → (before after : ℕ) → Type 0
IsCreationPaid rules d base scene before after =
    (after ≡ before) ⊎ ((setup : Setup) × IsSetupOf d base setup × (after ≤ before + creation_calls rules setup scene))
