-- The walk along the order: what is found at each place is right, within the calls that are due.
use Rattle.std.proofs.Common.{◌≡◌, ◌<◌, ◌≤◌, ◌+◌, ◌∙◌, ℕ, List, Bool, Option, Some, length, slice_get, sum_by, drop, ap, subst, arith}
use Rattle.std.specs.Option.{option_map}
use Rattle.configuration.specs.declared.vertex.Vertex.{Vertex}
use Rattle.configuration.specs.declared.vertex.Vertex.TheVariants.{Facet, Field}
use Rattle.values.specs.declared.val.Val.{Val}
use Rattle.values.specs.Rules.{Rules, AreLawful}
use Rattle.facet_slots.specs.declared.scene_flags.SceneFlags.{SceneFlags}
use Rattle.facet_slots.specs.Setups.{Setup, field_at, order_of}
use Rattle.facet_slots.specs.Scenes.{SceneView, IsScene, Values}
use Rattle.facet_slots.specs.Settling.{field_value, values_of}
use Rattle.facet_slots.specs.Stepping.{State, Transition, rule_of, scene_after}
use Rattle.facet_slots.specs.Making.{IsMadeIn}
use Rattle.facet_slots.specs.Order.{IsOrdered, IsVertex}
use Rattle.facet_slots.specs.Lawful.{IsLawful}
use Rattle.facet_slots.specs.Agreement.{Agree, Follows}
use Rattle.facet_slots.specs.Keeping.{held, held_inputs, inputs_of, inputs_put, state_of, AreKnown, HasRoom, IsKept, Puts}
use Rattle.facet_slots.specs.Flags.{Change, Flags, SceneKept, change_of, flags_of, moved_by}
use Rattle.facet_slots.specs.Due.{calls_due}
use Rattle.facet_slots.specs.Nexts.{next_calls, IsNext}
use Rattle.facet_slots.proofs.Advance.{advance, advance-calls}
use Rattle.facet_slots.proofs.Changing.{is-change, new-fields}
use Rattle.facet_slots.proofs.Held.{held-is, kept-from, transition-fits}
use Rattle.facet_slots.proofs.Rounds.{known-put}
use Rattle.facet_slots.proofs.Unflagged.{IsChange}

-- what is found is right before a place of the order
pub record IsDrafted (rules : Rules) (transition : Transition) (old : State) (setup : Setup) (scene : SceneView) (moved : SceneFlags) (values : Values) (flags : Flags) (ins : Vertex → List (List Val)) (i : ℕ) : Type 0 where
  pub scene_is : scene ≡ scene_after transition old.scene
  pub moved_is : moved ≡ moved_by transition
  pub values_known : AreKnown setup values (change_of rules transition old setup).new.values i
  pub flags_known : AreKnown setup flags (flags_of rules (change_of rules transition old setup)) i
  pub inputs_known : AreKnown setup ins (inputs_of rules setup (scene_after transition old.scene) (change_of rules transition old setup).new.values) i

module _ (rules : Rules) (law : AreLawful rules) (transition : Transition) (old_setup : Setup) (old_scene : SceneView) (facets fields : List (Option Val)) (inputs : List (List (List Val))) (kept : IsKept rules old_setup old_scene facets fields inputs)
    (setup : Setup) (ordered : IsOrdered setup) (lawful : IsLawful rules setup) (agree : Agree old_setup setup) (scene_kept : SceneKept (moved_by transition) old_scene (scene_after transition old_scene)) where
  abbrev change : Change
  change = change_of rules transition (state_of old_setup old_scene facets fields) setup

  is : IsChange rules (change_of rules transition (state_of old_setup old_scene facets fields) setup)
  is = is-change rules transition old_setup old_scene facets fields inputs kept setup ordered lawful agree scene_kept

  fields-are : (f : ℕ) → change.new.values (Field f) ≡ option_map (field_value change.new.scene (rule_of rules transition change.old) change.new.values f) (field_at change.new.setup f)
  fields-are = new-fields rules transition old_setup old_scene facets fields inputs kept setup ordered lawful agree scene_kept

  module _ (scene : SceneView) (moved : SceneFlags) (values : Values) (flags : Flags) (ins : Vertex → List (List Val)) (i : ℕ) (drafted : IsDrafted rules transition (state_of old_setup old_scene facets fields) setup scene moved values flags ins i)
      (v : Vertex) (inside : i < length (order_of setup)) (at : slice_get (order_of setup) i ≡ Some v) (known : IsVertex setup v) where
    -- and it is right before the next place
    pub drafted-more : (value : Option Val) (flag : Bool) (given : List (List Val)) → IsNext rules transition setup scene moved flags values (state_of old_setup old_scene facets fields) (held_inputs inputs) v value flag given
        → (scene' : SceneView) (moved' : SceneFlags) (values' : Values) (flags' : Flags) (ins' : Vertex → List (List Val)) → scene' ≡ scene → moved' ≡ moved
        → Puts values values' v value → Puts flags flags' v flag → Puts ins ins' v (inputs_put v given)
        → IsDrafted rules transition (state_of old_setup old_scene facets fields) setup scene' moved' values' flags' ins' (i + 1)
    drafted-more value flag given next scene' moved' values' flags' ins' same same_moved puts_value puts_flag puts_inputs =
        let found : IsNext rules transition setup (scene_after transition old_scene) (moved_by transition) flags values (state_of old_setup old_scene facets fields) (held_inputs inputs) v value flag given =
        subst (λ (m : SceneFlags). IsNext rules transition setup (scene_after transition old_scene) m flags values (state_of old_setup old_scene facets fields) (held_inputs inputs) v value flag given) drafted.moved_is
        (subst (λ (s : SceneView). IsNext rules transition setup s moved flags values (state_of old_setup old_scene facets fields) (held_inputs inputs) v value flag given) drafted.scene_is next) in
        let right = advance rules law transition change is fields-are (held_inputs inputs) kept.inputs_kept i v inside at known flags values drafted.values_known drafted.flags_known value flag given found in
        record {
          scene_is = same ∙ drafted.scene_is;
          moved_is = same_moved ∙ drafted.moved_is;
          values_known = known-put setup change.new.values values values' i v value at drafted.values_known right.value_right puts_value;
          flags_known = known-put setup (flags_of rules change) flags flags' i v flag at drafted.flags_known right.flag_right puts_flag;
          inputs_known = known-put setup (inputs_of rules setup (scene_after transition old_scene) change.new.values) ins ins' i v (inputs_put v given) at drafted.inputs_known right.inputs_right puts_inputs;
        }

    -- the calls that it takes are those that are due
    pub drafted-calls : next_calls rules transition setup scene moved flags values (state_of old_setup old_scene facets fields) (held_inputs inputs) v ≡ calls_due rules transition change (flags_of rules change) v
    drafted-calls =
        ap (λ (s : SceneView). next_calls rules transition setup s moved flags values (state_of old_setup old_scene facets fields) (held_inputs inputs) v) drafted.scene_is
        ∙ ap (λ (m : SceneFlags). next_calls rules transition setup (scene_after transition old_scene) m flags values (state_of old_setup old_scene facets fields) (held_inputs inputs) v) drafted.moved_is
        ∙ advance-calls rules law transition change is fields-are (held_inputs inputs) kept.inputs_kept i v inside at known flags values drafted.values_known drafted.flags_known

  -- all found, the values are those that are wanted, and what is kept is of one state
  module _ (scene : SceneView) (moved : SceneFlags) (new_facets new_fields : List (Option Val)) (new_inputs : List (List (List Val))) (flags : Flags) (i : ℕ) (all : length (order_of setup) ≤ i)
      (drafted : IsDrafted rules transition (state_of old_setup old_scene facets fields) setup scene moved (held new_facets new_fields) flags (held_inputs new_inputs) i) (room : HasRoom setup new_facets new_fields new_inputs) where
    known-all : AreKnown setup (held new_facets new_fields) change.new.values (length (order_of setup))
    known-all k v below at = drafted.values_known k v (omega (arith, all, below)) at

    pub drafted-values : held new_facets new_fields ≡ values_of rules setup (scene_after transition old_scene) (rule_of rules transition (state_of old_setup old_scene facets fields))
    drafted-values = held-is rules setup ordered (scene_after transition old_scene) (rule_of rules transition (state_of old_setup old_scene facets fields)) new_facets new_fields new_inputs room known-all

    pub drafted-kept : IsScene (scene_after transition old_scene) → IsMadeIn old_scene transition → Follows transition old_setup setup → IsKept rules setup (scene_after transition old_scene) new_facets new_fields new_inputs
    drafted-kept fine made follows =
        kept-from rules setup ordered (scene_after transition old_scene) (rule_of rules transition (state_of old_setup old_scene facets fields)) law lawful fine
        (transition-fits rules law setup lawful (state_of old_setup old_scene facets fields) kept.fields_fit transition made follows)
        new_facets new_fields new_inputs room known-all (λ k v below at. drafted.inputs_known k v (omega (arith, all, below)) at)
