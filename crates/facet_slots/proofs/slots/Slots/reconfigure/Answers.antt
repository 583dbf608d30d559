use Rattle.std.proofs.Common.{◌≡◌, ◌≤◌, ◌+◌, ◌∙◌, ap, length, subst, sym}
use Rattle.facet_slots.specs.Setups.{Setup}
use Rattle.facet_slots.specs.Scenes.{IsEachInRange, IsScene}
use Rattle.facet_slots.specs.Settling.{values_of}
use Rattle.facet_slots.specs.Stepping.{after, rule_of, Enter, Update}
use Rattle.facet_slots.specs.Making.{IsMade}
use Rattle.facet_slots.specs.Order.{IsOrdered}
use Rattle.facet_slots.specs.Agreement.{Follows, IsGrown}
use Rattle.facet_slots.specs.Lawful.{IsLawful}
use Rattle.facet_slots.specs.Keeping.{held, state_of, IsKept}
use Rattle.facet_slots.specs.Due.{transition_calls}
use Rattle.facet_slots.specs.Found.{scene_of}
use Rattle.facet_slots.specs.declared.kept.Kept.{Kept}
use Rattle.facet_slots.specs.Lent.{defs_of, scene_in, setup_of, state_in, values_in, IsKeptIn}
use Rattle.facet_slots.specs.Slotted.{Slotted, plain}
use Rattle.facet_slots.proofs.Grown.{enter-follows, resolved-grown, update-follows}
use Rattle.facet_slots.proofs.Ordered.{resolved-ordered}
use Rattle.facet_slots.proofs.Resolved.{resolved-formed}
use Rattle.facet_slots.proofs.Stated.{after-is, calls-are, record_setup}
use Rattle.facet_slots.proofs.Still.{scene-is}
use Rattle.configuration.specs.Config.{ConfigView}
use Rattle.facet_slots.proofs.slots.Slots.reconfigure.Goals as goal

pub kept_after-requires-clause-is_scene : goal.kept_after-requires-clause-is_scene
kept_after-requires-clause-is_scene g c =
    subst IsScene (sym (c.in_ok-scene.ensures ∙ ap (λ (k : Kept). scene_in k) c.deref-old.ensures)) c.self.invariant.is_scene

pub kept_after-requires-clause-scene : goal.kept_after-requires-clause-scene
kept_after-requires-clause-scene g c =
    c.in_ok-scene.ensures

pub kept_after-requires-clause-placed : goal.kept_after-requires-clause-placed
kept_after-requires-clause-placed g c =
    let grown : IsGrown (defs_of c.self.inside.defs.value) (defs_of c.args.defs.value) = subst (λ (v : Slotted). IsGrown v.setup.defs (defs_of c.args.defs.value)) (sym c.self.view_is) c.requires.grown in
    subst (λ (s : Setup). length s.config.inputs ≤ length s.defs.facets) (sym c.lent-2.ensures) (resolved-formed (record { defs = (defs_of c.args.defs.value); config = c.args.config.value }) c.requires.resolved).inputs

pub kept_after-requires-clause-ordered : goal.kept_after-requires-clause-ordered
kept_after-requires-clause-ordered g c =
    let grown : IsGrown (defs_of c.self.inside.defs.value) (defs_of c.args.defs.value) = subst (λ (v : Slotted). IsGrown v.setup.defs (defs_of c.args.defs.value)) (sym c.self.view_is) c.requires.grown in
    subst IsOrdered (sym c.lent-2.ensures) (resolved-ordered (record { defs = (defs_of c.args.defs.value); config = c.args.config.value }) c.requires.resolved)

pub kept_after-requires-clause-old_lawful : goal.kept_after-requires-clause-old_lawful
kept_after-requires-clause-old_lawful g c =
    subst (IsLawful g.M.Meanings.rules) (sym c.lent.ensures) c.self.invariant.lawful

pub kept_after-requires-clause-lawful : goal.kept_after-requires-clause-lawful
kept_after-requires-clause-lawful g c =
    subst (IsLawful g.M.Meanings.rules) (sym c.lent-2.ensures) c.requires.lawful

pub kept_after-requires-clause-follows : goal.kept_after-requires-clause-follows
kept_after-requires-clause-follows g c =
    let grown : IsGrown (defs_of c.self.inside.defs.value) (defs_of c.args.defs.value) = subst (λ (v : Slotted). IsGrown v.setup.defs (defs_of c.args.defs.value)) (sym c.self.view_is) c.requires.grown in
    subst (λ (s : Setup). Follows Enter (setup_of c.lent.result) s) (sym c.lent-2.ensures) (subst (λ (s : Setup). Follows Enter s (record { defs = (defs_of c.args.defs.value); config = c.args.config.value })) (sym c.lent.ensures) (enter-follows (record { defs = (defs_of c.self.inside.defs.value); config = c.self.inside.config.value }) (record { defs = (defs_of c.args.defs.value); config = c.args.config.value }) c.self.invariant.resolved grown))

pub kept_after-requires-clause-kept : goal.kept_after-requires-clause-kept
kept_after-requires-clause-kept g c =
    subst (λ (k : Kept). IsKeptIn g.M.Meanings.rules c.lent.result k) (sym c.deref-old.ensures)
    (subst (λ (s : Setup). IsKept g.M.Meanings.rules s (scene_in c.self.inside.kept.value) c.self.inside.kept.value.shelf.facets c.self.inside.kept.value.shelf.fields c.self.inside.kept.value.shelf.inputs) (sym c.lent.ensures) c.self.invariant.kept)

pub invariant_of-result : goal.invariant_of-result
invariant_of-result g c =
    let grown : IsGrown (defs_of c.self.inside.defs.value) (defs_of c.args.defs.value) = subst (λ (v : Slotted). IsGrown v.setup.defs (defs_of c.args.defs.value)) (sym c.self.view_is) c.requires.grown in
    record { resolved = c.requires.resolved; lawful = c.requires.lawful; is_scene = subst IsScene (sym (c.in_ok-kept.ensures.scene ∙ (c.in_ok-scene.ensures ∙ ap (λ (k : Kept). scene_in k) c.deref-old.ensures))) c.self.invariant.is_scene; kept = subst (λ (s : Setup). IsKept g.M.Meanings.rules s (scene_in c.in_ok-kept.kept.value) c.in_ok-kept.kept.value.shelf.facets c.in_ok-kept.kept.value.shelf.fields c.in_ok-kept.kept.value.shelf.inputs) c.lent-2.ensures c.in_ok-kept.ensures.kept; in_range = subst (λ (k : Kept). IsEachInRange (held k.shelf.facets k.shelf.fields)) c.deref.ensures c.known.ensures }

pub returns-clause-state : goal.returns-clause-state
returns-clause-state g c =
    subst (λ (v : Slotted). state_of (record { defs = (defs_of c.args.defs.value); config = c.args.config.value }) (scene_in c.in_ok-kept.kept.value) c.in_ok-kept.kept.value.shelf.facets c.in_ok-kept.kept.value.shelf.fields ≡ after g.M.Meanings.rules Enter (plain v) (record { defs = (defs_of c.args.defs.value); config = c.args.config.value })) c.self.view_is
    (after-is g.M.Meanings.rules Enter (record { setup = record { defs = (defs_of c.self.inside.defs.value); config = c.self.inside.config.value }; scene = scene_in c.self.inside.kept.value; facets = c.self.inside.kept.value.shelf.facets; fields = c.self.inside.kept.value.shelf.fields }) (setup_of c.lent.result) (record { defs = (defs_of c.args.defs.value); config = c.args.config.value }) (setup_of c.lent-2.result) c.lent.ensures c.lent-2.ensures (scene_of c.in_ok-scene.scene) (scene_in c.in_ok-kept.kept.value) c.in_ok-kept.kept.value.shelf.facets c.in_ok-kept.kept.value.shelf.fields (c.in_ok-scene.ensures ∙ ap (λ (k : Kept). scene_in k) c.deref-old.ensures) c.in_ok-kept.ensures.scene (subst (λ (k : Kept). values_in c.in_ok-kept.kept.value ≡ values_of g.M.Meanings.rules (setup_of c.lent-2.result) (scene_of c.in_ok-scene.scene) (rule_of g.M.Meanings.rules Enter (state_in c.lent.result k))) c.deref-old.ensures c.in_ok-kept.ensures.values))

pub returns-in_err-kept-clause-cost : goal.returns-in_err-kept-clause-cost
returns-in_err-kept-clause-cost g c =
    subst (λ (v : Slotted). c.kept_after.new.calls ≤ c.args.calls.now + transition_calls g.M.Meanings.rules Enter (plain v) (record { defs = (defs_of c.args.defs.value); config = c.args.config.value })) c.self.view_is
    (calls-are g.M.Meanings.rules Enter (record { setup = record { defs = (defs_of c.self.inside.defs.value); config = c.self.inside.config.value }; scene = scene_in c.self.inside.kept.value; facets = c.self.inside.kept.value.shelf.facets; fields = c.self.inside.kept.value.shelf.fields }) (setup_of c.lent.result) (record { defs = (defs_of c.args.defs.value); config = c.args.config.value }) (setup_of c.lent-2.result) c.lent.ensures c.lent-2.ensures c.args.calls.now c.kept_after.new.calls (subst (λ (k : Kept). c.kept_after.new.calls ≤ c.args.calls.now + transition_calls g.M.Meanings.rules Enter (state_in c.lent.result k) (setup_of c.lent-2.result)) c.deref-old.ensures c.kept_after.ensures.cost))

pub returns-clause-cost : goal.returns-clause-cost
returns-clause-cost g c =
    subst (λ (v : Slotted). c.kept_after.new.calls ≤ c.args.calls.now + transition_calls g.M.Meanings.rules Enter (plain v) (record { defs = (defs_of c.args.defs.value); config = c.args.config.value })) c.self.view_is
    (calls-are g.M.Meanings.rules Enter (record { setup = record { defs = (defs_of c.self.inside.defs.value); config = c.self.inside.config.value }; scene = scene_in c.self.inside.kept.value; facets = c.self.inside.kept.value.shelf.facets; fields = c.self.inside.kept.value.shelf.fields }) (setup_of c.lent.result) (record { defs = (defs_of c.args.defs.value); config = c.args.config.value }) (setup_of c.lent-2.result) c.lent.ensures c.lent-2.ensures c.args.calls.now c.kept_after.new.calls (subst (λ (k : Kept). c.kept_after.new.calls ≤ c.args.calls.now + transition_calls g.M.Meanings.rules Enter (state_in c.lent.result k) (setup_of c.lent-2.result)) c.deref-old.ensures c.kept_after.ensures.cost))
