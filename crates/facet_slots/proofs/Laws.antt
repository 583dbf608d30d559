-- Laws of the values, in the subject's words.
use Rattle.std.proofs.Common.{◌≡◌, ◌≤◌, ◌<◌, ◌∙◌, ℕ, List, [], ◌∷◌, Bool, true, false, Option, None, Some, MatchOption, length, map, refl, sym, ap, subst, arith, ⊎_elim}
use Rattle.std.specs.Option.{option_map, unwrap_or}
use Rattle.std.specs.List.{AllByRecursion}
use Rattle.configuration.specs.declared.facet_def.FacetDef.{FacetDef}
use Rattle.configuration.specs.declared.vertex.Vertex.TheVariants.{Facet, Field}
use Rattle.configuration.specs.Pairs.{reads_of}
use Rattle.values.specs.declared.val.Val.{Val}
use Rattle.values.specs.Reading.{nothing}
use Rattle.values.specs.Rules.{Rules, AreLawful}
use Rattle.values.specs.Views.{TransactionView}
use Rattle.facet_slots.specs.Setups.{Setup, InputNode, PresentFacet, PresentField, facet_at, field_at, order_of}
use Rattle.facet_slots.specs.Scenes.{shown}
use Rattle.facet_slots.specs.FacetValues.{facet_value, joined, node_outputs, outputs}
use Rattle.facet_slots.specs.Settling.{field_value}
use Rattle.facet_slots.specs.Stepping.{State, Update, heard, next, rule_of, scene_after}
use Rattle.facet_slots.specs.Order.{AllInputs, IsOrdered, StandsBefore}
use Rattle.facet_slots.specs.Flags.{Change, any_flagged, flags_of, same_nodes}
use Rattle.facet_slots.proofs.Held.{settled-at}
use Rattle.facet_slots.proofs.Places.{facet-cases}
use Rattle.facet_slots.proofs.Rounds.{AllNeeds-weaker}
use Rattle.facet_slots.proofs.Unflagged.{IsChange, KeptUnlessFlagged, facet-agrees, outputs-kept, same-nodes, unflagged-before}

-- A facet whose inputs are those that it had, and read nothing that changed, keeps its value.
module _ (rules : Rules) (lawful : AreLawful rules) (c : Change) (change : IsChange rules c) (f : ℕ) (was facet : PresentFacet) (there : facet_at c.old.setup f ≡ Some was) (at : facet_at c.new.setup f ≡ Some facet) where
  unread-outputs : (is : List InputNode) → AllInputs (KeptUnlessFlagged (flags_of rules c) c.old.values c.new.values) is → AllByRecursion (λ (i : InputNode). any_flagged c.moved (flags_of rules c) (reads_of i.input) ≡ false) is
      → map (node_outputs rules c.old.scene c.old.values) is ≡ map (node_outputs rules c.new.scene c.new.values) is
  unread-outputs [] h u = refl
  unread-outputs (i ∷ is) h u =
      let one = outputs-kept c (flags_of rules c) change.scene_kept rules i.input h.0 u.0 in
      let rest = unread-outputs is h.1 u.1 in cc

  facet-inside : f < length c.new.setup.defs.facets
  facet-inside = ⊎_elim (λ lt. lt) (λ past. absurd (none-some (sym past.1 ∙ at))) (facet-cases c.new.setup f)
    where
      none-some : {X : Type 0} {x : X} → None ≡ Some x → ⊥
      none-some e = cc

  inputs-kept : AllInputs (KeptUnlessFlagged (flags_of rules c) c.old.values c.new.values) facet.inputs
  inputs-kept =
      let place = change.ordered.complete (Facet f) facet-inside in
      let within = place.1 in
      subst (λ (o : Option PresentFacet). MatchOption o (Unit {0}) (λ (d : PresentFacet). AllInputs (KeptUnlessFlagged (flags_of rules c) c.old.values c.new.values) d.inputs)) at
      (AllNeeds-weaker (StandsBefore (order_of c.new.setup) place.0) (KeptUnlessFlagged (flags_of rules c) c.old.values c.new.values)
      (λ w before. unflagged-before rules lawful c change place.0 (omega (arith, within)) w before) c.new.setup (Facet f) (change.ordered.after place.0 (Facet f) place.2))

  pub unread-keeps : same_nodes was.inputs facet.inputs ≡ true → AllByRecursion (λ (i : InputNode). any_flagged c.moved (flags_of rules c) (reads_of i.input) ≡ false) facet.inputs → c.old.values (Facet f) ≡ c.new.values (Facet f)
  unread-keeps same unread =
      let agree = facet-agrees rules lawful c change f facet at was there in
      let ins : map (node_outputs rules c.old.scene c.old.values) was.inputs ≡ map (node_outputs rules c.new.scene c.new.values) facet.inputs =
      same-nodes (outputs rules c.old.scene c.old.values) was.inputs facet.inputs agree.1 same ∙ unread-outputs facet.inputs inputs-kept unread in
      change.old_combined f ∙ ap (λ (o : Option PresentFacet). option_map (facet_value rules c.old.scene c.old.values) o) there
      ∙ ap (λ (d : FacetDef). Some (rules.combine d.combine (joined (map (node_outputs rules c.old.scene c.old.values) was.inputs)))) agree.0
      ∙ ap (λ (xs : List (List Val)). Some (rules.combine facet.def.combine (joined xs))) ins
      ∙ sym (change.new_combined f ∙ ap (λ (o : Option PresentFacet). option_map (facet_value rules c.new.scene c.new.values) o) at)

-- A field's value after a transaction is its updater's answer on the value before.
pub field-folds : (rules : Rules) (setup : Setup) → IsOrdered setup → (old : State) (t : TransactionView) (f : ℕ) (field : PresentField) → field_at setup f ≡ Some field
    → (next rules old setup t).values (Field f)
    ≡ Some (rules.update field.def.update (unwrap_or (old.values (Field f)) nothing) (heard field.def.listens t) (shown (next rules old setup t).scene (next rules old setup t).values field.def.reads))
field-folds rules setup ordered old t f field at =
    settled-at rules setup ordered (scene_after (Update t) old.scene) (rule_of rules (Update t) old) (Field f)
    ∙ ap (λ (o : Option PresentField). option_map (field_value (scene_after (Update t) old.scene) (rule_of rules (Update t) old) (next rules old setup t).values f) o) at
