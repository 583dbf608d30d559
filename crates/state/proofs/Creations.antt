-- The state of a base, and why there is none.
use Rattle.std.proofs.Common.{◌≡◌, ◌≤◌, ◌+◌, ◌∙◌, ℕ, List, [], None, Some, Ok, Err, refl, sym, ap, subst}
use Rattle.configuration.specs.Config.{ConfigView}
use Rattle.values.specs.Declarations.{Declarations}
use Rattle.values.specs.Rules.{Rules}
use Rattle.facet_slots.specs.Lent.{definitions}
use Rattle.facet_slots.specs.Scenes.{SceneView}
use Rattle.facet_slots.specs.Setups.{Setup}
use Rattle.facet_slots.specs.Stepping.{State}
use Rattle.state.specs.declared.state_error.StateError.{StateError}
use Rattle.state.specs.Creating.{IsSetupOf, created_state, creation_calls}
use Rattle.state.specs.Plainly.{config_from, created_from, created_in, created_unless, unordered, unordered_config}
use Rattle.state.specs.Reconfigured.{IsConfigOf, setup_in}
use Rattle.state.specs.Refusals.{scene_refusal}

module _ (rules : Rules) (d : Declarations) (base : List ℕ) (scene : SceneView) where
  pub setup-of : (config : ConfigView) → IsConfigOf d (record { base = base; contents = [] }) config → IsSetupOf d base (setup_in d config)
  setup-of config is = record { defs = refl; config = is }

  module _ (config : ConfigView) (new : State) (made : new ≡ created_state rules (setup_in d config) scene) where
    new-setup : new.setup ≡ setup_in d config
    new-setup = ap (λ (s : State). s.setup) made

    pub new-defs : new.setup.defs ≡ definitions d
    new-defs = ap (λ (s : State). s.setup.defs) made

    pub created-is : scene_refusal scene ≡ None → config_from d (record { base = base; contents = [] }) ≡ Ok (unordered_config config) → created_from rules d base scene ≡ Ok (unordered new)
    created-is accepted found =
        ap (created_unless rules d base scene) accepted ∙ ap (created_in rules d base scene) found ∙ ap (λ (s : State). Ok (unordered s)) (sym made)

    pub creation-paid : (before after : ℕ) → after ≤ before + creation_calls rules (setup_in d config) scene → after ≤ before + creation_calls rules new.setup scene
    creation-paid before after paid = subst (λ (setup : Setup). after ≤ before + creation_calls rules setup scene) (sym new-setup) paid

  pub scene-refused : (error : StateError) → scene_refusal scene ≡ Some error → created_from rules d base scene ≡ Err error
  scene-refused error e = ap (created_unless rules d base scene) e

  pub base-refused : (error : StateError) → scene_refusal scene ≡ None → config_from d (record { base = base; contents = [] }) ≡ Err error → created_from rules d base scene ≡ Err error
  base-refused error e refused = ap (created_unless rules d base scene) e ∙ ap (created_in rules d base scene) refused
