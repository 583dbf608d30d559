use Rattle.std.proofs.Common.{Option, Some, ap, sym, ◌∙◌}
use Rattle.std.specs.Option.{option_map}
use Rattle.configuration.specs.declared.vertex.Vertex.TheVariants.{Field}
use Rattle.facet_slots.specs.Setups.{PresentField, field_at}
use Rattle.facet_slots.specs.Scenes.{SceneView}
use Rattle.facet_slots.specs.Settling.{field_value}
use Rattle.facet_slots.specs.Stepping.{State, rule_of}
use Rattle.facet_slots.specs.Flags.{field_flag}
use Rattle.facet_slots.specs.Lent.{present_of, scene_in, setup_of, state_in, transition_of, values_in}
use Rattle.facet_slots.proofs.step.step_field.Goals as goal

pub field_found-requires-clause-lawful : goal.field_found-requires-clause-lawful
field_found-requires-clause-lawful g c = c.requires.lawful.fields c.args.place (present_of c.in-Some.field) c.in-Some.ensures

pub field_found-requires-clause-fits : goal.field_found-requires-clause-fits
field_found-requires-clause-fits g c = λ t is. c.requires.kept.fields_fit c.args.place (present_of c.in-Some.field) (sym ((c.requires.follows.continued t is).fields c.args.place) ∙ c.in-Some.ensures)

pub returns-in_ok-value-in-Some-clause-next : goal.returns-in_ok-value-in-Some-clause-next
returns-in_ok-value-in-Some-clause-next g c =
    let rules = g.M.Meanings.rules in
    let old : State = state_in c.args.old_setup.now c.args.old.now in
    let scene : SceneView = scene_in c.args.draft.now.kept in
    record {
      value_is = ap Some c.in_ok-value-in-Some.ensures.value ∙ ap (option_map (field_value scene (rule_of rules (transition_of c.args.transition.now) old) (values_in c.args.draft.now.kept) c.args.place)) (sym c.in-Some.ensures);
      flag_is = c.in_ok-value-in-Some.ensures.flag (λ t is. sym ((c.requires.follows.continued t is).fields c.args.place) ∙ c.in-Some.ensures)
          ∙ ap (λ (o : Option PresentField). field_flag rules (field_at (setup_of c.args.old_setup.now) c.args.place) o (values_in c.args.old.now (Field c.args.place)) (Some c.in_ok-value-in-Some.field-0.value)) (sym c.in-Some.ensures);
    }
