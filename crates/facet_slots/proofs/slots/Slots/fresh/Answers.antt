use Rattle.std.proofs.Common.{◌≡◌, ◌≤◌, ◌+◌, ◌∙◌, ap, subst, sym}
use Rattle.facet_slots.specs.Setups.{Setup}
use Rattle.facet_slots.specs.Scenes.{IsEachInRange, IsScene}
use Rattle.facet_slots.specs.Stepping.{creation, empty_state, Enter}
use Rattle.facet_slots.specs.Lawful.{IsLawful}
use Rattle.facet_slots.specs.Resolving.{IsResolved}
use Rattle.facet_slots.specs.Keeping.{held, IsKept}
use Rattle.facet_slots.specs.Due.{transition_calls}
use Rattle.facet_slots.specs.Found.{scene_of}
use Rattle.facet_slots.specs.declared.kept.Kept.{Kept}
use Rattle.facet_slots.specs.Lent.{defs_of, scene_in, values_in}
use Rattle.facet_slots.proofs.Held.{state-same}
use Rattle.facet_slots.proofs.slots.Slots.fresh.Goals as goal

pub first_kept-requires-clause-resolved : goal.first_kept-requires-clause-resolved
first_kept-requires-clause-resolved g c = subst IsResolved (sym c.lent.ensures) c.requires.resolved

pub first_kept-requires-clause-lawful : goal.first_kept-requires-clause-lawful
first_kept-requires-clause-lawful g c = subst (IsLawful g.M.Meanings.rules) (sym c.lent.ensures) c.requires.lawful

pub invariant_of-result : goal.invariant_of-result
invariant_of-result g c =
    record { resolved = c.requires.resolved; lawful = c.requires.lawful; is_scene = subst IsScene (sym c.in_ok-kept.ensures.scene) c.requires.is_scene; kept = subst (λ (s : Setup). IsKept g.M.Meanings.rules s (scene_in c.in_ok-kept.kept.value) c.in_ok-kept.kept.value.shelf.facets c.in_ok-kept.kept.value.shelf.fields c.in_ok-kept.kept.value.shelf.inputs) c.lent.ensures c.in_ok-kept.ensures.kept; in_range = subst (λ (k : Kept). IsEachInRange (held k.shelf.facets k.shelf.fields)) c.deref.ensures c.known.ensures }

pub returns-clause-state : goal.returns-clause-state
returns-clause-state g c =
    state-same (record { defs = defs_of c.args.defs.value; config = c.args.config.value }) (scene_in c.in_ok-kept.kept.value) (scene_of c.args.scene) (values_in c.in_ok-kept.kept.value) (creation g.M.Meanings.rules (record { defs = defs_of c.args.defs.value; config = c.args.config.value }) (scene_of c.args.scene)).values c.in_ok-kept.ensures.scene
    (c.in_ok-kept.ensures.values ∙ ap (λ (s : Setup). (creation g.M.Meanings.rules s (scene_of c.args.scene)).values) c.lent.ensures)

pub returns-in_err-kept-clause-cost : goal.returns-in_err-kept-clause-cost
returns-in_err-kept-clause-cost g c =
    subst (λ (s : Setup). c.first_kept.new.calls ≤ c.args.calls.now + transition_calls g.M.Meanings.rules Enter (empty_state (scene_of c.args.scene)) s) c.lent.ensures c.first_kept.ensures.cost

pub returns-clause-cost : goal.returns-clause-cost
returns-clause-cost g c =
    subst (λ (s : Setup). c.first_kept.new.calls ≤ c.args.calls.now + transition_calls g.M.Meanings.rules Enter (empty_state (scene_of c.args.scene)) s) c.lent.ensures c.first_kept.ensures.cost
