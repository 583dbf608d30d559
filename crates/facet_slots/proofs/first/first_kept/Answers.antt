use Rattle.std.proofs.Common.{◌≡◌, ◌≤◌, ◌+◌, ◌∙◌, [], ap, subst, sym}
use Rattle.facet_slots.specs.Setups.{Definitions, Setup}
use Rattle.facet_slots.specs.Scenes.{IsScene, SceneView}
use Rattle.facet_slots.specs.Settling.{values_of}
use Rattle.facet_slots.specs.Stepping.{State, Enter, no_setup, rule_of}
use Rattle.facet_slots.specs.Agreement.{Follows}
use Rattle.facet_slots.specs.Lawful.{IsLawful}
use Rattle.facet_slots.specs.Keeping.{IsKept}
use Rattle.facet_slots.specs.Due.{transition_calls}
use Rattle.facet_slots.specs.Found.{scene_of}
use Rattle.facet_slots.specs.Lent.{scene_in, setup_of}
use Rattle.facet_slots.proofs.Fresh.{nothing-follows, nothing-kept, nothing-lawful, state-nothing}
use Rattle.facet_slots.proofs.Ordered.{resolved-ordered}
use Rattle.facet_slots.proofs.Resolved.{resolved-formed}
use Rattle.facet_slots.proofs.Stated.{record_setup}
use Rattle.facet_slots.proofs.first.first_kept.Goals as goal

pub kept_after-requires-clause-old_scene : goal.kept_after-requires-clause-old_scene
kept_after-requires-clause-old_scene g c =
    subst IsScene (sym (c.in_ok-old.ensures.scene ∙ c.in_ok-copy.ensures)) c.requires.is_scene

pub kept_after-requires-clause-scene : goal.kept_after-requires-clause-scene
kept_after-requires-clause-scene g c =
    sym (c.in_ok-old.ensures.scene ∙ c.in_ok-copy.ensures)

pub kept_after-requires-clause-placed : goal.kept_after-requires-clause-placed
kept_after-requires-clause-placed g c =
    (resolved-formed (setup_of c.args.setup.now) c.requires.resolved).inputs

pub kept_after-requires-clause-ordered : goal.kept_after-requires-clause-ordered
kept_after-requires-clause-ordered g c =
    resolved-ordered (setup_of c.args.setup.now) c.requires.resolved

pub kept_after-requires-clause-old_lawful : goal.kept_after-requires-clause-old_lawful
kept_after-requires-clause-old_lawful g c =
    subst (IsLawful g.M.Meanings.rules) (sym (c.nothing.ensures ∙ ap (λ (d : Definitions). record_setup d no_setup.config) c.nothing_declared-none.ensures)) (nothing-lawful g.M.Meanings.rules)

pub kept_after-requires-clause-follows : goal.kept_after-requires-clause-follows
kept_after-requires-clause-follows g c =
    subst (λ (s : Setup). Follows Enter s (setup_of c.args.setup.now)) (sym (c.nothing.ensures ∙ ap (λ (d : Definitions). record_setup d no_setup.config) c.nothing_declared-none.ensures)) (nothing-follows (setup_of c.args.setup.now))

pub kept_after-requires-clause-kept : goal.kept_after-requires-clause-kept
kept_after-requires-clause-kept g c =
    rw (c.in_ok-old.ensures.facets, c.in_ok-old.ensures.fields, c.in_ok-old.ensures.inputs)
    (subst (λ (s : Setup). IsKept g.M.Meanings.rules s (scene_in c.in_ok-old.old) [] [] []) (sym (c.nothing.ensures ∙ ap (λ (d : Definitions). record_setup d no_setup.config) c.nothing_declared-none.ensures)) (nothing-kept g.M.Meanings.rules (scene_in c.in_ok-old.old)))

pub returns-clause-values : goal.returns-clause-values
returns-clause-values g c =
    c.in_ok-kept.ensures.values ∙ ap (λ (s : State). values_of g.M.Meanings.rules (setup_of c.args.setup.now) (scene_of c.args.scene) (rule_of g.M.Meanings.rules Enter s)) (state-nothing (setup_of c.nothing.result) (scene_in c.in_ok-old.old) (scene_of c.args.scene) c.in_ok-old.old.shelf.facets c.in_ok-old.old.shelf.fields (c.nothing.ensures ∙ ap (λ (d : Definitions). record_setup d no_setup.config) c.nothing_declared-none.ensures) (c.in_ok-old.ensures.scene ∙ c.in_ok-copy.ensures) c.in_ok-old.ensures.facets c.in_ok-old.ensures.fields)

pub returns-in_err-kept-clause-cost : goal.returns-in_err-kept-clause-cost
returns-in_err-kept-clause-cost g c =
    subst (λ (s : State). c.kept_after.new.calls ≤ c.args.calls.now + transition_calls g.M.Meanings.rules Enter s (setup_of c.args.setup.now)) (state-nothing (setup_of c.nothing.result) (scene_in c.in_ok-old.old) (scene_of c.args.scene) c.in_ok-old.old.shelf.facets c.in_ok-old.old.shelf.fields (c.nothing.ensures ∙ ap (λ (d : Definitions). record_setup d no_setup.config) c.nothing_declared-none.ensures) (c.in_ok-old.ensures.scene ∙ c.in_ok-copy.ensures) c.in_ok-old.ensures.facets c.in_ok-old.ensures.fields) c.kept_after.ensures.cost

pub returns-clause-cost : goal.returns-clause-cost
returns-clause-cost g c =
    subst (λ (s : State). c.kept_after.new.calls ≤ c.args.calls.now + transition_calls g.M.Meanings.rules Enter s (setup_of c.args.setup.now)) (state-nothing (setup_of c.nothing.result) (scene_in c.in_ok-old.old) (scene_of c.args.scene) c.in_ok-old.old.shelf.facets c.in_ok-old.old.shelf.fields (c.nothing.ensures ∙ ap (λ (d : Definitions). record_setup d no_setup.config) c.nothing_declared-none.ensures) (c.in_ok-old.ensures.scene ∙ c.in_ok-copy.ensures) c.in_ok-old.ensures.facets c.in_ok-old.ensures.fields) c.kept_after.ensures.cost
