-- What is kept and what is wanted are the two sides of a change.
use Rattle.std.proofs.Common.{◌≡◌, ◌∙◌, ℕ, List, Option, ap}
use Rattle.std.specs.Option.{option_map}
use Rattle.configuration.specs.declared.vertex.Vertex.TheVariants.{Facet, Field}
use Rattle.values.specs.declared.val.Val.{Val}
use Rattle.values.specs.Rules.{Rules}
use Rattle.facet_slots.specs.Setups.{Setup, PresentField, field_at}
use Rattle.facet_slots.specs.Scenes.{SceneView}
use Rattle.facet_slots.specs.Settling.{field_value}
use Rattle.facet_slots.specs.Stepping.{Transition, after, rule_of, scene_after}
use Rattle.facet_slots.specs.Order.{IsOrdered}
use Rattle.facet_slots.specs.Lawful.{IsLawful}
use Rattle.facet_slots.specs.Agreement.{Agree}
use Rattle.facet_slots.specs.Keeping.{IsKept, state_of}
use Rattle.facet_slots.specs.Flags.{SceneKept, change_of, moved_by}
use Rattle.facet_slots.proofs.Held.{settled-at}
use Rattle.facet_slots.proofs.Unflagged.{IsChange}

module _ (rules : Rules) (transition : Transition) (old_setup : Setup) (old_scene : SceneView) (facets fields : List (Option Val)) (inputs : List (List (List Val))) (kept : IsKept rules old_setup old_scene facets fields inputs)
    (setup : Setup) (ordered : IsOrdered setup) (lawful : IsLawful rules setup) (agree : Agree old_setup setup) (scene_kept : SceneKept (moved_by transition) old_scene (scene_after transition old_scene)) where
  pub new-fields : (f : ℕ) → (after rules transition (state_of old_setup old_scene facets fields) setup).values (Field f)
      ≡ option_map (field_value (scene_after transition old_scene) (rule_of rules transition (state_of old_setup old_scene facets fields)) (after rules transition (state_of old_setup old_scene facets fields) setup).values f) (field_at setup f)
  new-fields f = settled-at rules setup ordered (scene_after transition old_scene) (rule_of rules transition (state_of old_setup old_scene facets fields)) (Field f)

  -- what is kept and what is wanted are the two sides of a change
  pub is-change : IsChange rules (change_of rules transition (state_of old_setup old_scene facets fields) setup)
  is-change = record {
    ordered = ordered;
    lawful = lawful;
    agree = agree;
    scene_kept = scene_kept;
    old_combined = kept.combined;
    new_combined = λ f. settled-at rules setup ordered (scene_after transition old_scene) (rule_of rules transition (state_of old_setup old_scene facets fields)) (Facet f);
    old_absent = kept.absent;
    new_absent = λ f none. new-fields f ∙ ap (λ (o : Option PresentField). option_map (field_value (scene_after transition old_scene) (rule_of rules transition (state_of old_setup old_scene facets fields)) (after rules transition (state_of old_setup old_scene facets fields) setup).values f) o) none;
  }
