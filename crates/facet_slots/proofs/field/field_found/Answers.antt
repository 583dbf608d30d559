use Rattle.std.proofs.Common.{◌≡◌, ◌∙◌, not, Some, ap}
use Rattle.std.proofs.lemmas.Result.{IfOk-weaker}
use Rattle.configuration.specs.declared.vertex.Vertex.TheVariants.{Field}
use Rattle.values.specs.Views.{TransactionView}
use Rattle.facet_slots.specs.declared.field.FieldFound.{FieldFound}
use Rattle.facet_slots.specs.declared.transition.Transition.{Transition}
use Rattle.facet_slots.specs.Setups.{field_at}
use Rattle.facet_slots.specs.Stepping.{Update}
use Rattle.facet_slots.specs.Flags.{field_flag, same_value}
use Rattle.facet_slots.specs.Lent.{present_of, setup_of, transition_of, values_in}
use Rattle.facet_slots.proofs.Continuing.{field-stays}
use Rattle.facet_slots.proofs.field.field_found.Goals as goal

pub updated-requires-clause-fits : goal.updated-requires-clause-fits
updated-requires-clause-fits g c = c.requires.fits c.in-Update.transaction.now (ap (λ (t : Transition). transition_of t) c.in-Update.is)

pub returns-in-Update-clause-flag : goal.returns-in-Update-clause-flag
returns-in-Update-clause-flag g c =
    IfOk-weaker c.updated.result
    (λ (n : FieldFound). n.flag ≡ not (same_value g.M.Meanings.rules (present_of c.args.field.now).def.compare (values_in c.args.old.now (Field c.args.place)) (Some n.value)))
    (λ (n : FieldFound). ((t : TransactionView) → transition_of c.args.transition.now ≡ Update t → field_at (setup_of c.args.old_setup.now) c.args.place ≡ Some (present_of c.args.field.now)) → n.flag ≡ field_flag g.M.Meanings.rules (field_at (setup_of c.args.old_setup.now) c.args.place) (Some (present_of c.args.field.now)) (values_in c.args.old.now (Field c.args.place)) (Some n.value))
    (λ n h there. h ∙ field-stays g.M.Meanings.rules (field_at (setup_of c.args.old_setup.now) c.args.place) (present_of c.args.field.now) (values_in c.args.old.now (Field c.args.place)) (Some n.value) (there c.in-Update.transaction.now (ap (λ (t : Transition). transition_of t) c.in-Update.is))) c.updated.ensures.flag

pub returns-in-Enter-clause-flag : goal.returns-in-Enter-clause-flag
returns-in-Enter-clause-flag g c =
    IfOk-weaker c.entered.result
    (λ (n : FieldFound). n.flag ≡ field_flag g.M.Meanings.rules (field_at (setup_of c.args.old_setup.now) c.args.place) (Some (present_of c.args.field.now)) (values_in c.args.old.now (Field c.args.place)) (Some n.value))
    (λ (n : FieldFound). ((t : TransactionView) → transition_of c.args.transition.now ≡ Update t → field_at (setup_of c.args.old_setup.now) c.args.place ≡ Some (present_of c.args.field.now)) → n.flag ≡ field_flag g.M.Meanings.rules (field_at (setup_of c.args.old_setup.now) c.args.place) (Some (present_of c.args.field.now)) (values_in c.args.old.now (Field c.args.place)) (Some n.value))
    (λ n h there. h) c.entered.ensures.flag
