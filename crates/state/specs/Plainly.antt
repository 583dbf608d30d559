-- Creation and update as functions of plain states, whose order of dependencies is left out (Reference Manual,
-- EditorState.create, EditorState.update).
use Rattle.std.specs.Prelude.{ℕ, List, [], Bool, true, false, Option, None, Some, Result, Ok, Err}
use Rattle.configuration.specs.Config.{ConfigView}
use Rattle.configuration.specs.declared.config_error.ConfigError.{ConfigError}
use Rattle.resolution.specs.Resolution.{PlainConfig, resolved}
use Rattle.transaction.specs.declared.draft.Draft.{Draft}
use Rattle.transaction.specs.declared.effect.Effect.{Effect}
use Rattle.transaction.specs.declared.spec.Spec.{Spec}
use Rattle.values.specs.declared.val.Val.{Val}
use Rattle.values.specs.Declarations.{Declarations}
use Rattle.values.specs.Rules.{Rules}
use Rattle.filters.specs.Outcomes.{Outcome}
use Rattle.facet_slots.specs.Scenes.{SceneView}
use Rattle.facet_slots.specs.Stepping.{State, step}
use Rattle.state.specs.declared.extensions.Extensions.{Extensions}
use Rattle.state.specs.declared.state_error.StateError.{StateError}
use Rattle.state.specs.Creating.{created_state}
use Rattle.state.specs.Drafting.{draft_of}
use Rattle.state.specs.Moving.{transaction_of}
use Rattle.state.specs.Reconfigured.{configures, extensions_after, extensions_of, setup_in, tree_in}
use Rattle.state.specs.Refusals.{of_config_error, of_transaction_error, scene_refusal}
use Rattle.state.specs.Steps.{entered_target}

-- Unordered: a configuration without its order of dependencies, which may be any.
abbrev pub unordered_config : ConfigView → ConfigView
unordered_config config = record config { order = [] }

-- and a state whose configuration has none; no value goes by it
abbrev pub unordered : State → State
unordered s = record s { setup = record s.setup { config = unordered_config s.setup.config } }

abbrev pub config_with : PlainConfig → ConfigView
config_with plain =
    record { base = plain.base; flat = plain.flat; inputs = plain.inputs; fields = plain.fields; order = []; contents = plain.contents }

abbrev pub config_or : Result PlainConfig ConfigError → Result ConfigView StateError
config_or (Ok plain) = Ok (config_with plain)
config_or (Err error) = Err (of_config_error error)

-- Configuration of extensions over what is declared, or why there is none.
abbrev pub config_from : Declarations → Extensions → Result ConfigView StateError
config_from d e = config_or (resolved (tree_in d e) d.facets d.fields d.node_defs e.base)

abbrev pub changed_if : (is_configured : Bool) → Result ConfigView StateError → Result (Option ConfigView) StateError
changed_if false found = Ok None
changed_if true (Ok config) = Ok (Some config)
changed_if true (Err error) = Err error

-- Configuration after effects: none where no effect is on the configuration, so that the old one stays; else what the
-- extensions come to after all of them, or why that is none.
abbrev pub config_after : Declarations → ConfigView → List (Effect Val) → Result (Option ConfigView) StateError
config_after d old effects = changed_if (configures effects) (config_from d (extensions_after (extensions_of old) effects))

module _ (rules : Rules) (d : Declarations) (base : List ℕ) (scene : SceneView) where
  -- the state of what the base comes to
  abbrev pub created_in : Result ConfigView StateError → Result State StateError
  created_in (Ok config) = Ok (created_state rules (setup_in d config) scene)
  created_in (Err error) = Err error

  abbrev pub created_unless : Option StateError → Result State StateError
  created_unless (Some first) = Err first
  created_unless None = created_in (config_from d (record { base = base; contents = [] }))

-- Created: the state that a base comes to over a document and a selection; or the first refusal, of the document and its
-- selection, or else of the base.
abbrev pub created_from : Rules → Declarations → List ℕ → SceneView → Result State StateError
created_from rules d base scene = created_unless rules d base scene (scene_refusal scene)

module _ (rules : Rules) (d : Declarations) (old : State) where
  -- the state that a draft leads to, in the configuration that was found after its effects
  abbrev pub stepped_to : Draft Val → Result (Option ConfigView) StateError → Result State StateError
  stepped_to draft (Ok found) = Ok (step rules old (entered_target d old.setup.config found) (transaction_of d old draft))
  stepped_to draft (Err error) = Err error

  -- the state that what comes of the specs leads to
  abbrev pub stepped_by : Outcome → Result State StateError
  stepped_by (Ok draft) = stepped_to draft (config_after d old.setup.config draft.effects)
  stepped_by (Err error) = Err (of_transaction_error error)

-- Updated: the state that the specs of an update lead to from another one: drafted, with the configuration that their effects
-- make, and stepped to; or the first refusal, of the draft, or else of the configuration.
abbrev pub updated_from : Rules → Declarations → State → List (Spec Val) → Result State StateError
updated_from rules d old specs = stepped_by rules d old (draft_of rules d old specs)
