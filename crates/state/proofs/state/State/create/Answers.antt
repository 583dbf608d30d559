use Rattle.std.proofs.Common.{◌≤◌, ◌+◌, ◌∙◌, ap, inr, subst, sym}
use Rattle.values.specs.declared.scene.Scene.{Scene}
use Rattle.registry.specs.Predeclared.{predeclared}
use Rattle.facet_slots.specs.Agreement.{IsGrown}
use Rattle.facet_slots.specs.Found.{scene_of}
use Rattle.facet_slots.specs.Lent.{definitions}
use Rattle.facet_slots.specs.Setups.{Definitions}
use Rattle.facet_slots.specs.Slotted.{plain}
use Rattle.facet_slots.proofs.Declared.{definitions-grown, grown-same}
use Rattle.state.specs.Creating.{created_state, creation_calls}
use Rattle.state.specs.Reconfigured.{setup_in}
use Rattle.state.proofs.Creations.{created-is, creation-paid, new-defs, setup-of}
use Rattle.state.proofs.state.State.create.Goals as goal

pub returns-in_err-slots-clause-paid : goal.returns-in_err-slots-clause-paid
returns-in_err-slots-clause-paid g c =
    let d = c.args.registry.now in
    inr (
      setup_in d c.in_ok-config.config,
      setup-of g.M.Meanings.rules d c.args.base.now (record { document = c.args.document.characters; selection = c.args.selection }) c.in_ok-config.config c.in_ok-config.ensures.config,
      subst (λ (s : Scene). c.created.new.calls ≤ c.args.calls.now + creation_calls g.M.Meanings.rules (setup_in d c.in_ok-config.config) (scene_of s)) c.in_ok-scene.ensures.same c.in_err-slots.ensures.cost,
    )

pub invariant_of-result : goal.invariant_of-result
invariant_of-result g c =
    let d = c.args.registry.now in
    subst (IsGrown (definitions predeclared)) (sym (new-defs g.M.Meanings.rules d c.args.base.now (scene_of c.in_ok-scene.scene) c.in_ok-config.config (plain c.in_ok-slots.slots) c.in_ok-slots.ensures.state)) (definitions-grown predeclared d c.known.ensures.grown)

pub returns-clause-created : goal.returns-clause-created
returns-clause-created g c =
    let d = c.args.registry.now in
    created-is g.M.Meanings.rules d c.args.base.now (record { document = c.args.document.characters; selection = c.args.selection }) c.in_ok-config.config (plain c.in_ok-slots.slots)
    (c.in_ok-slots.ensures.state ∙ ap (λ (s : Scene). created_state g.M.Meanings.rules (setup_in d c.in_ok-config.config) (scene_of s)) c.in_ok-scene.ensures.same) c.in_ok-scene.ensures.accepted c.in_ok-config.ensures.found

pub returns-clause-grown : goal.returns-clause-grown
returns-clause-grown g c =
    let d = c.args.registry.now in
    subst (λ (k : Definitions). IsGrown k (definitions d)) (sym (new-defs g.M.Meanings.rules d c.args.base.now (scene_of c.in_ok-scene.scene) c.in_ok-config.config (plain c.in_ok-slots.slots) c.in_ok-slots.ensures.state)) (grown-same (definitions d))

pub returns-clause-cost : goal.returns-clause-cost
returns-clause-cost g c =
    let d = c.args.registry.now in
    creation-paid g.M.Meanings.rules d c.args.base.now (record { document = c.args.document.characters; selection = c.args.selection }) c.in_ok-config.config (plain c.in_ok-slots.slots)
    (c.in_ok-slots.ensures.state ∙ ap (λ (s : Scene). created_state g.M.Meanings.rules (setup_in d c.in_ok-config.config) (scene_of s)) c.in_ok-scene.ensures.same) c.args.calls.now c.created.new.calls
    (subst (λ (s : Scene). c.created.new.calls ≤ c.args.calls.now + creation_calls g.M.Meanings.rules (setup_in d c.in_ok-config.config) (scene_of s)) c.in_ok-scene.ensures.same c.in_ok-slots.ensures.cost)

pub returns-clause-paid : goal.returns-clause-paid
returns-clause-paid g c =
    let d = c.args.registry.now in
    inr (
      setup_in d c.in_ok-config.config,
      setup-of g.M.Meanings.rules d c.args.base.now (record { document = c.args.document.characters; selection = c.args.selection }) c.in_ok-config.config c.in_ok-config.ensures.config,
      subst (λ (s : Scene). c.created.new.calls ≤ c.args.calls.now + creation_calls g.M.Meanings.rules (setup_in d c.in_ok-config.config) (scene_of s)) c.in_ok-scene.ensures.same c.in_ok-slots.ensures.cost,
    )
