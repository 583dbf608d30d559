-- What is kept after a transition is the state that is wanted, with the calls that are due.
use Rattle.std.proofs.Common.{◌≡◌, ◌≤◌, ◌+◌, ◌∙◌, ℕ, List, Option, ap, subst}
use Rattle.configuration.specs.Config.{ConfigView}
use Rattle.values.specs.declared.val.Val.{Val}
use Rattle.values.specs.Rules.{Rules}
use Rattle.facet_slots.specs.Setups.{Definitions, Setup}
use Rattle.facet_slots.specs.Scenes.{SceneView}
use Rattle.facet_slots.specs.Settling.{values_of}
use Rattle.facet_slots.specs.Stepping.{State, Transition, after, rule_of, scene_after}
use Rattle.facet_slots.specs.Keeping.{held, state_of}
use Rattle.facet_slots.specs.Due.{transition_calls}
use Rattle.facet_slots.specs.Slotted.{Slotted, plain}
use Rattle.facet_slots.proofs.Held.{state-same}

-- a configuration over definitions
abbrev pub record_setup : Definitions → ConfigView → Setup
record_setup defs config = record { defs = defs; config = config }

module _ (rules : Rules) (transition : Transition) (old : Slotted) (old_setup new new_setup : Setup) (same_old : old_setup ≡ old.setup) (same_new : new_setup ≡ new) where
  pub after-is : (scene kept_scene : SceneView) (facets fields : List (Option Val)) → scene ≡ scene_after transition old.scene → kept_scene ≡ scene
      → held facets fields ≡ values_of rules new_setup scene (rule_of rules transition (state_of old_setup old.scene old.facets old.fields))
      → state_of new kept_scene facets fields ≡ after rules transition (plain old) new
  after-is scene kept_scene facets fields from kept values =
      state-same new kept_scene (scene_after transition old.scene) (held facets fields) (values_of rules new (scene_after transition old.scene) (rule_of rules transition (plain old))) (kept ∙ from)
      (values
      ∙ ap (λ (s : Setup). values_of rules s scene (rule_of rules transition (state_of old_setup old.scene old.facets old.fields))) same_new
      ∙ ap (λ (s : Setup). values_of rules new scene (rule_of rules transition (state_of s old.scene old.facets old.fields))) same_old
      ∙ ap (λ (s : SceneView). values_of rules new s (rule_of rules transition (plain old))) from)

  pub calls-are : (before calls : ℕ) → calls ≤ before + transition_calls rules transition (state_of old_setup old.scene old.facets old.fields) new_setup → calls ≤ before + transition_calls rules transition (plain old) new
  calls-are before calls paid =
      subst (λ (s : Setup). calls ≤ before + transition_calls rules transition (plain old) s) same_new
      (subst (λ (s : Setup). calls ≤ before + transition_calls rules transition (state_of s old.scene old.facets old.fields) new_setup) same_old paid)
