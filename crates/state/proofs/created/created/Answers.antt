use Rattle.std.proofs.Common.{◌≡◌, ◌≤◌, ◌+◌, ◌∙◌, ap, refl, subst, sym}
use Rattle.std.proofs.lemmas.Result.{IfOk-weaker}
use Rattle.registry.specs.Predeclared.{predeclared, predeclared_facets}
use Rattle.facet_slots.specs.Due.{transition_calls}
use Rattle.facet_slots.specs.Found.{scene_of}
use Rattle.facet_slots.specs.Lawful.{IsLawful}
use Rattle.facet_slots.specs.Lent.{defs_of}
use Rattle.facet_slots.specs.Resolving.{IsResolved}
use Rattle.facet_slots.specs.Scenes.{SceneView}
use Rattle.facet_slots.specs.Setups.{Setup}
use Rattle.facet_slots.specs.Slotted.{plain}
use Rattle.facet_slots.specs.Stepping.{Enter, creation, empty_state}
use Rattle.facet_slots.proofs.Declared.{definitions-grown}
use Rattle.facet_slots.proofs.Growing.{stays-got}
use Rattle.facet_slots.proofs.Ordered.{resolved-ordered}
use Rattle.state.specs.Creating.{created_state}
use Rattle.state.specs.Reconfigured.{setup_in}
use Rattle.state.proofs.Registered.{lawful-in, resolved-in, setup-is, setup_with}
use Rattle.state.proofs.Several.{several-known, several_def, start-is}
use Rattle.state.proofs.created.created.Goals as goal

pub fresh-requires-clause-resolved : goal.fresh-requires-clause-resolved
fresh-requires-clause-resolved g c =
    subst IsResolved (sym (setup-is c.args.registry.now c.defs-2.result.now c.defs-2.ensures.defs (defs_of c.in_ok-defs.defs.value) c.in_ok-defs.ensures c.in_ok-config.config.value c.args.config c.in_ok-config.ensures))
    (resolved-in g.M.Meanings.rules c.args.registry.now c.defs.ensures.lawful c.defs-2.result.now c.defs-2.ensures.defs c.requires.config.0 c.args.config c.requires.config.1)

pub fresh-requires-clause-lawful : goal.fresh-requires-clause-lawful
fresh-requires-clause-lawful g c =
    subst (IsLawful g.M.Meanings.rules) (sym (setup-is c.args.registry.now c.defs-2.result.now c.defs-2.ensures.defs (defs_of c.in_ok-defs.defs.value) c.in_ok-defs.ensures c.in_ok-config.config.value c.args.config c.in_ok-config.ensures))
    (lawful-in g.M.Meanings.rules c.args.registry.now c.defs.ensures.lawful c.defs-2.result.now c.defs-2.ensures.defs c.requires.config.0 c.args.config c.requires.config.1)

pub returns-clause-state : goal.returns-clause-state
returns-clause-state g c =
    let rules = g.M.Meanings.rules in
    let d = c.args.registry.now in
    let setup = setup_with (defs_of c.in_ok-defs.defs.value) c.in_ok-config.config.value in
    let same = setup-is d c.defs-2.result.now c.defs-2.ensures.defs (defs_of c.in_ok-defs.defs.value) c.in_ok-defs.ensures c.in_ok-config.config.value c.args.config c.in_ok-config.ensures in
    let there = c.defs.ensures.defs in
    let start = c.in_ok-start.ensures.cut ∙ start-is rules g.met.M.Meanings.keeps d c.defs.ensures.lawful (stays-got predeclared_facets d.facets (definitions-grown predeclared d c.known.ensures.grown).facets 1 several_def refl) c.requires.config.0 c.args.config c.requires.config.1 (resolved-ordered (setup_in d c.args.config) (resolved-in rules d c.defs.ensures.lawful c.defs.result.now there c.requires.config.0 c.args.config c.requires.config.1)) (scene_of c.args.scene) c.config_allows_several-several.result c.defs.result.now.node_defs there.node_defs_are c.config_allows_several-several.ensures in
    IfOk-weaker c.fresh.result (λ s. plain s ≡ creation rules setup (scene_of c.in_ok-start.start)) (λ s. plain s ≡ created_state rules (setup_in d c.args.config) (scene_of c.args.scene))
    (λ s h. h ∙ ap (λ (x : Setup). creation rules x (scene_of c.in_ok-start.start)) same ∙ ap (creation rules (setup_in d c.args.config)) start) c.fresh.ensures.state

pub returns-clause-cost : goal.returns-clause-cost
returns-clause-cost g c =
    let rules = g.M.Meanings.rules in
    let d = c.args.registry.now in
    let same = setup-is d c.defs-2.result.now c.defs-2.ensures.defs (defs_of c.in_ok-defs.defs.value) c.in_ok-defs.ensures c.in_ok-config.config.value c.args.config c.in_ok-config.ensures in
    let there = c.defs.ensures.defs in
    let start = c.in_ok-start.ensures.cut ∙ start-is rules g.met.M.Meanings.keeps d c.defs.ensures.lawful (stays-got predeclared_facets d.facets (definitions-grown predeclared d c.known.ensures.grown).facets 1 several_def refl) c.requires.config.0 c.args.config c.requires.config.1 (resolved-ordered (setup_in d c.args.config) (resolved-in rules d c.defs.ensures.lawful c.defs.result.now there c.requires.config.0 c.args.config c.requires.config.1)) (scene_of c.args.scene) c.config_allows_several-several.result c.defs.result.now.node_defs there.node_defs_are c.config_allows_several-several.ensures in
    subst (λ (s : SceneView). c.fresh.new.calls ≤ c.args.calls.now + transition_calls rules Enter (empty_state s) (setup_in d c.args.config)) start
    (subst (λ (x : Setup). c.fresh.new.calls ≤ c.args.calls.now + transition_calls rules Enter (empty_state (scene_of c.in_ok-start.start)) x) same c.fresh.ensures.cost)

pub config_allows_several-several-requires : goal.config_allows_several-several-requires
config_allows_several-several-requires g c = several-known c.args.registry.now c.known.ensures.grown c.requires.config.0 c.args.config c.requires.config.1
