use Rattle.std.proofs.Common.{Some, None, IsSomeAnd, ap}
use Rattle.std.proofs.lemmas.Result.{IfOk-weaker}
use Rattle.configuration.specs.declared.facet_def.FacetDef.{FacetDef}
use Rattle.configuration.specs.declared.vertex.Vertex.TheVariants.{Facet}
use Rattle.facet_slots.specs.declared.slot.Slot.{Slot}
use Rattle.facet_slots.specs.Keeping.{held_inputs}
use Rattle.facet_slots.specs.Nexts.{IsNext, IsNextFacet}
use Rattle.facet_slots.specs.Lent.{facet_in, flags_in, scene_in, setup_of, state_in, transition_of, values_in}
use Rattle.facet_slots.proofs.Nexting.{next-vertex, next-vertex-calls}
use Rattle.facet_slots.proofs.step.step_facet.Goals as goal

pub known_facet-requires-clause-same_combine : goal.known_facet-requires-clause-same_combine
known_facet-requires-clause-same_combine g c =
    ap (λ (d : FacetDef). d.combine) (c.requires.follows.agree.facets c.args.place (facet_in c.args.old_setup.now c.in-Some-facet.was.now c.args.place) (facet_in c.args.setup.now c.in-Some.facet.now c.args.place) c.in-Some-facet.ensures c.in-Some.ensures)

pub returns-in-Some-facet-clause-next : goal.returns-in-Some-facet-clause-next
returns-in-Some-facet-clause-next g c =
    IfOk-weaker c.known_facet.result
    (λ (n : Slot). IsSomeAnd n.value (λ value. IsNextFacet g.M.Meanings.rules (scene_in c.args.draft.now.kept) c.args.draft.now.moved (flags_in c.args.draft.now.kept) (values_in c.args.draft.now.kept) (Some (facet_in c.args.old_setup.now c.in-Some-facet.was.now c.args.place)) (held_inputs c.args.old.now.shelf.inputs (Facet c.args.place)) (values_in c.args.old.now (Facet c.args.place)) (facet_in c.args.setup.now c.in-Some.facet.now c.args.place) value n.flag n.inputs))
    (λ (n : Slot). IsNext g.M.Meanings.rules (transition_of c.args.transition.now) (setup_of c.args.setup.now) (scene_in c.args.draft.now.kept) c.args.draft.now.moved (flags_in c.args.draft.now.kept) (values_in c.args.draft.now.kept) (state_in c.args.old_setup.now c.args.old.now) (held_inputs c.args.old.now.shelf.inputs) (Facet c.args.place) n.value n.flag n.inputs)
    (λ n h. next-vertex g.M.Meanings.rules (transition_of c.args.transition.now) (setup_of c.args.setup.now) (scene_in c.args.draft.now.kept) c.args.draft.now.moved (flags_in c.args.draft.now.kept) (values_in c.args.draft.now.kept) (state_in c.args.old_setup.now c.args.old.now) (held_inputs c.args.old.now.shelf.inputs) c.args.place (Some (facet_in c.args.old_setup.now c.in-Some-facet.was.now c.args.place)) (facet_in c.args.setup.now c.in-Some.facet.now c.args.place) n.value n.flag n.inputs c.in-Some-facet.ensures c.in-Some.ensures h) c.known_facet.ensures.next

pub returns-in-Some-facet-clause-cost : goal.returns-in-Some-facet-clause-cost
returns-in-Some-facet-clause-cost g c =
    let same = next-vertex-calls g.M.Meanings.rules (transition_of c.args.transition.now) (setup_of c.args.setup.now) (scene_in c.args.draft.now.kept) c.args.draft.now.moved (flags_in c.args.draft.now.kept) (values_in c.args.draft.now.kept) (state_in c.args.old_setup.now c.args.old.now) (held_inputs c.args.old.now.shelf.inputs) c.args.place (Some (facet_in c.args.old_setup.now c.in-Some-facet.was.now c.args.place)) (facet_in c.args.setup.now c.in-Some.facet.now c.args.place) c.in-Some-facet.ensures c.in-Some.ensures in
    rw (← same) c.known_facet.ensures.cost

pub returns-in-None-facet-clause-next : goal.returns-in-None-facet-clause-next
returns-in-None-facet-clause-next g c =
    IfOk-weaker c.new_facet.result
    (λ (n : Slot). IsSomeAnd n.value (λ value. IsNextFacet g.M.Meanings.rules (scene_in c.args.draft.now.kept) c.args.draft.now.moved (flags_in c.args.draft.now.kept) (values_in c.args.draft.now.kept) None (held_inputs c.args.old.now.shelf.inputs (Facet c.args.place)) (values_in c.args.old.now (Facet c.args.place)) (facet_in c.args.setup.now c.in-Some.facet.now c.args.place) value n.flag n.inputs))
    (λ (n : Slot). IsNext g.M.Meanings.rules (transition_of c.args.transition.now) (setup_of c.args.setup.now) (scene_in c.args.draft.now.kept) c.args.draft.now.moved (flags_in c.args.draft.now.kept) (values_in c.args.draft.now.kept) (state_in c.args.old_setup.now c.args.old.now) (held_inputs c.args.old.now.shelf.inputs) (Facet c.args.place) n.value n.flag n.inputs)
    (λ n h. next-vertex g.M.Meanings.rules (transition_of c.args.transition.now) (setup_of c.args.setup.now) (scene_in c.args.draft.now.kept) c.args.draft.now.moved (flags_in c.args.draft.now.kept) (values_in c.args.draft.now.kept) (state_in c.args.old_setup.now c.args.old.now) (held_inputs c.args.old.now.shelf.inputs) c.args.place None (facet_in c.args.setup.now c.in-Some.facet.now c.args.place) n.value n.flag n.inputs c.in-None-facet.ensures c.in-Some.ensures h) c.new_facet.ensures.next

pub returns-in-None-facet-clause-cost : goal.returns-in-None-facet-clause-cost
returns-in-None-facet-clause-cost g c =
    let same = next-vertex-calls g.M.Meanings.rules (transition_of c.args.transition.now) (setup_of c.args.setup.now) (scene_in c.args.draft.now.kept) c.args.draft.now.moved (flags_in c.args.draft.now.kept) (values_in c.args.draft.now.kept) (state_in c.args.old_setup.now c.args.old.now) (held_inputs c.args.old.now.shelf.inputs) c.args.place None (facet_in c.args.setup.now c.in-Some.facet.now c.args.place) c.in-None-facet.ensures c.in-Some.ensures in
    rw (← same) c.new_facet.ensures.cost
