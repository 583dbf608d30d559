use Rattle.std.proofs.Common.{arith, ◌≡◌, ◌≤◌, ◌<◌, ◌+◌, ◌∙◌, ℕ, List, slice_get, length, drop, sum_by, Some, ap, sym, subst}
use Rattle.configuration.specs.declared.vertex.Vertex.{Vertex}
use Rattle.values.specs.declared.val.Val.{Val}
use Rattle.facet_slots.specs.Setups.{order_of}
use Rattle.facet_slots.specs.Scenes.{IsScene, SceneView}
use Rattle.facet_slots.specs.Settling.{values_of}
use Rattle.facet_slots.specs.Stepping.{rule_of}
use Rattle.facet_slots.specs.Order.{IsVertex}
use Rattle.facet_slots.specs.Keeping.{held_inputs, IsKept}
use Rattle.facet_slots.specs.Flags.{change_of, flags_of}
use Rattle.facet_slots.specs.Due.{calls_due}
use Rattle.facet_slots.specs.Nexts.{next_calls}
use Rattle.facet_slots.specs.declared.kept.Kept.{Kept}
use Rattle.facet_slots.specs.Lent.{flags_in, scene_in, setup_of, state_in, transition_of, values_in, IsKeptIn}
use Rattle.facet_slots.specs.Found.{scene_of}
use Rattle.facet_slots.proofs.Places.{all-at, sum-more}
use Rattle.facet_slots.proofs.Still.{scene-kept}
use Rattle.facet_slots.proofs.Walking.{drafted-more, drafted-calls, drafted-values, drafted-kept}
use Rattle.facet_slots.proofs.WithoutInputs.{stay-still}
use Rattle.facet_slots.proofs.walk.kept_after.Goals as goal

pub begun_draft-requires : goal.begun_draft-requires
begun_draft-requires g c =
    record { still = λ t is. stay-still g.M.Meanings.rules (setup_of c.args.old_setup.now) (setup_of c.args.setup.now) (scene_in c.args.old.now) c.args.old.now.shelf c.requires.kept (c.requires.follows.continued t is) }

pub advance-requires-clause-scene : goal.advance-requires-clause-scene
advance-requires-clause-scene g c = subst IsScene (c.requires.scene ∙ sym c.loop-place.invariant.drafted.scene_is) c.requires.is_scene

pub advance-requires-clause-vertex : goal.advance-requires-clause-vertex
advance-requires-clause-vertex g c =
    let order : List Vertex = order_of (setup_of c.args.setup.now) in
    let i = c.loop-place.place in
    let inside : i < length order = omega (arith, c.order_len-place-end.ensures, c.loop-place-test.true) in
    let vertex : Vertex = c.vertex_at-vertex.result in
    let there : slice_get order i ≡ Some vertex = c.vertex_at-vertex.ensures in
    let known : IsVertex (setup_of c.args.setup.now) vertex = all-at (IsVertex (setup_of c.args.setup.now)) order i vertex there c.requires.ordered.known in
    known

pub returns-in_err-advance-clause-cost : goal.returns-in_err-advance-clause-cost
returns-in_err-advance-clause-cost g c =
    let order : List Vertex = order_of (setup_of c.args.setup.now) in
    let i = c.loop-place.place in
    let inside : i < length order = omega (arith, c.order_len-place-end.ensures, c.loop-place-test.true) in
    let vertex : Vertex = c.vertex_at-vertex.result in
    let there : slice_get order i ≡ Some vertex = c.vertex_at-vertex.ensures in
    let known : IsVertex (setup_of c.args.setup.now) vertex = all-at (IsVertex (setup_of c.args.setup.now)) order i vertex there c.requires.ordered.known in
    let due : Vertex → ℕ = (calls_due g.M.Meanings.rules (transition_of c.args.transition.now) (change_of g.M.Meanings.rules (transition_of c.args.transition.now) (state_in c.args.old_setup.now c.args.old.now) (setup_of c.args.setup.now)) (flags_of g.M.Meanings.rules (change_of g.M.Meanings.rules (transition_of c.args.transition.now) (state_in c.args.old_setup.now c.args.old.now) (setup_of c.args.setup.now)))) in
    let one : sum_by due (drop i order) ≡ due vertex + sum_by due (drop (i + 1) order) = sum-more due order i vertex there in
    let calls : ℕ = next_calls g.M.Meanings.rules (transition_of c.args.transition.now) (setup_of c.args.setup.now) (scene_in c.loop-place.draft.kept) c.loop-place.draft.moved (flags_in c.loop-place.draft.kept) (values_in c.loop-place.draft.kept) (state_in c.args.old_setup.now c.args.old.now) (held_inputs c.args.old.now.shelf.inputs) vertex in
    let paid : calls ≡ due vertex = drafted-calls g.M.Meanings.rules g.met.M.Meanings.lawful (transition_of c.args.transition.now) (setup_of c.args.old_setup.now) (scene_in c.args.old.now) c.args.old.now.shelf.facets c.args.old.now.shelf.fields c.args.old.now.shelf.inputs c.requires.kept (setup_of c.args.setup.now) c.requires.ordered c.requires.lawful c.requires.follows.agree (scene-kept (scene_in c.args.old.now) c.requires.old_scene (transition_of c.args.transition.now) c.requires.made)
    (scene_in c.loop-place.draft.kept) c.loop-place.draft.moved (values_in c.loop-place.draft.kept) (flags_in c.loop-place.draft.kept) (held_inputs c.loop-place.draft.kept.shelf.inputs) i c.loop-place.invariant.drafted vertex inside there known in
    let called : c.advance.new.calls ≤ c.loop-place.calls + calls = c.advance.ensures.cost in
    omega (arith, c.loop-place.invariant.cost, one, paid, called)

pub loop-place-preserved : goal.loop-place-preserved
loop-place-preserved g c =
    let order : List Vertex = order_of (setup_of c.args.setup.now) in
    let i = c.loop-place.place in
    let inside : i < length order = omega (arith, c.order_len-place-end.ensures, c.loop-place-test.true) in
    let vertex : Vertex = c.vertex_at-vertex.result in
    let there : slice_get order i ≡ Some vertex = c.vertex_at-vertex.ensures in
    let known : IsVertex (setup_of c.args.setup.now) vertex = all-at (IsVertex (setup_of c.args.setup.now)) order i vertex there c.requires.ordered.known in
    let due : Vertex → ℕ = (calls_due g.M.Meanings.rules (transition_of c.args.transition.now) (change_of g.M.Meanings.rules (transition_of c.args.transition.now) (state_in c.args.old_setup.now c.args.old.now) (setup_of c.args.setup.now)) (flags_of g.M.Meanings.rules (change_of g.M.Meanings.rules (transition_of c.args.transition.now) (state_in c.args.old_setup.now c.args.old.now) (setup_of c.args.setup.now)))) in
    let one : sum_by due (drop i order) ≡ due vertex + sum_by due (drop (i + 1) order) = sum-more due order i vertex there in
    let calls : ℕ = next_calls g.M.Meanings.rules (transition_of c.args.transition.now) (setup_of c.args.setup.now) (scene_in c.loop-place.draft.kept) c.loop-place.draft.moved (flags_in c.loop-place.draft.kept) (values_in c.loop-place.draft.kept) (state_in c.args.old_setup.now c.args.old.now) (held_inputs c.args.old.now.shelf.inputs) vertex in
    let paid : calls ≡ due vertex = drafted-calls g.M.Meanings.rules g.met.M.Meanings.lawful (transition_of c.args.transition.now) (setup_of c.args.old_setup.now) (scene_in c.args.old.now) c.args.old.now.shelf.facets c.args.old.now.shelf.fields c.args.old.now.shelf.inputs c.requires.kept (setup_of c.args.setup.now) c.requires.ordered c.requires.lawful c.requires.follows.agree (scene-kept (scene_in c.args.old.now) c.requires.old_scene (transition_of c.args.transition.now) c.requires.made)
    (scene_in c.loop-place.draft.kept) c.loop-place.draft.moved (values_in c.loop-place.draft.kept) (flags_in c.loop-place.draft.kept) (held_inputs c.loop-place.draft.kept.shelf.inputs) i c.loop-place.invariant.drafted vertex inside there known in
    let called : c.advance.new.calls ≤ c.loop-place.calls + calls = c.advance.ensures.cost in
    record {
      drafted = drafted-more g.M.Meanings.rules g.met.M.Meanings.lawful (transition_of c.args.transition.now) (setup_of c.args.old_setup.now) (scene_in c.args.old.now) c.args.old.now.shelf.facets c.args.old.now.shelf.fields c.args.old.now.shelf.inputs c.requires.kept (setup_of c.args.setup.now) c.requires.ordered c.requires.lawful c.requires.follows.agree (scene-kept (scene_in c.args.old.now) c.requires.old_scene (transition_of c.args.transition.now) c.requires.made)
          (scene_in c.loop-place.draft.kept) c.loop-place.draft.moved (values_in c.loop-place.draft.kept) (flags_in c.loop-place.draft.kept) (held_inputs c.loop-place.draft.kept.shelf.inputs) i c.loop-place.invariant.drafted vertex inside there known
          (values_in c.advance.new.draft.kept vertex) (flags_in c.advance.new.draft.kept vertex) (held_inputs c.advance.new.draft.kept.shelf.inputs vertex) c.in_ok-advance.ensures.next
          (scene_in c.advance.new.draft.kept) c.advance.new.draft.moved (values_in c.advance.new.draft.kept) (flags_in c.advance.new.draft.kept) (held_inputs c.advance.new.draft.kept.shelf.inputs)
          c.in_ok-advance.ensures.scene c.in_ok-advance.ensures.moved c.in_ok-advance.ensures.value c.in_ok-advance.ensures.flag c.in_ok-advance.ensures.inputs;
      room = c.in_ok-advance.ensures.room;
      lasting = c.in_ok-advance.ensures.lasting;
      flag_room = c.in_ok-advance.ensures.flags;
      cost = omega (arith, c.loop-place.invariant.cost, one, paid, called);
    }

pub returns-clause-values : goal.returns-clause-values
returns-clause-values g c =
    let all : length (order_of (setup_of c.args.setup.now)) ≤ c.loop-place.place = omega (arith, c.order_len-place-end.ensures, c.loop-place-test.false) in
    ap (λ (k : Kept). values_in k) c.in_ok-new.ensures.ok
    ∙ drafted-values g.M.Meanings.rules g.met.M.Meanings.lawful (transition_of c.args.transition.now) (setup_of c.args.old_setup.now) (scene_in c.args.old.now) c.args.old.now.shelf.facets c.args.old.now.shelf.fields c.args.old.now.shelf.inputs c.requires.kept (setup_of c.args.setup.now) c.requires.ordered c.requires.lawful c.requires.follows.agree (scene-kept (scene_in c.args.old.now) c.requires.old_scene (transition_of c.args.transition.now) c.requires.made)
    (scene_in c.loop-place.draft.kept) c.loop-place.draft.moved c.loop-place.draft.kept.shelf.facets c.loop-place.draft.kept.shelf.fields c.loop-place.draft.kept.shelf.inputs (flags_in c.loop-place.draft.kept) c.loop-place.place all c.loop-place.invariant.drafted c.loop-place.invariant.room
    ∙ ap (λ (s : SceneView). values_of g.M.Meanings.rules (setup_of c.args.setup.now) s (rule_of g.M.Meanings.rules (transition_of c.args.transition.now) (state_in c.args.old_setup.now c.args.old.now))) (sym c.requires.scene)

pub returns-clause-kept : goal.returns-clause-kept
returns-clause-kept g c =
    let all : length (order_of (setup_of c.args.setup.now)) ≤ c.loop-place.place = omega (arith, c.order_len-place-end.ensures, c.loop-place-test.false) in
    subst (λ (k : Kept). IsKeptIn g.M.Meanings.rules c.args.setup.now k) (sym c.in_ok-new.ensures.ok)
    (subst (λ (s : SceneView). IsKept g.M.Meanings.rules (setup_of c.args.setup.now) s c.loop-place.draft.kept.shelf.facets c.loop-place.draft.kept.shelf.fields c.loop-place.draft.kept.shelf.inputs) (sym c.loop-place.invariant.drafted.scene_is)
    (drafted-kept g.M.Meanings.rules g.met.M.Meanings.lawful (transition_of c.args.transition.now) (setup_of c.args.old_setup.now) (scene_in c.args.old.now) c.args.old.now.shelf.facets c.args.old.now.shelf.fields c.args.old.now.shelf.inputs c.requires.kept (setup_of c.args.setup.now) c.requires.ordered c.requires.lawful c.requires.follows.agree (scene-kept (scene_in c.args.old.now) c.requires.old_scene (transition_of c.args.transition.now) c.requires.made)
    (scene_in c.loop-place.draft.kept) c.loop-place.draft.moved c.loop-place.draft.kept.shelf.facets c.loop-place.draft.kept.shelf.fields c.loop-place.draft.kept.shelf.inputs (flags_in c.loop-place.draft.kept) c.loop-place.place all c.loop-place.invariant.drafted c.loop-place.invariant.room
    (subst IsScene c.requires.scene c.requires.is_scene) c.requires.made c.requires.follows))

pub returns-clause-scene : goal.returns-clause-scene
returns-clause-scene g c = ap (λ (k : Kept). scene_in k) c.in_ok-new.ensures.ok ∙ c.loop-place.invariant.drafted.scene_is ∙ sym c.requires.scene
