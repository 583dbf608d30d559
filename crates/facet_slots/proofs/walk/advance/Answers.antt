use Rattle.std.proofs.Common.{◌≡◌, ◌∙◌, false, inr, refl, sym}
use Rattle.facet_slots.specs.Keeping.{held_inputs, inputs_put}
use Rattle.facet_slots.specs.Shelves.{vertex_lasts, IsStillIn}
use Rattle.facet_slots.specs.Lent.{flags_in, scene_in, setup_of, state_in, transition_of, values_in}
use Rattle.facet_slots.proofs.WithoutInputs.{lasting-kept, next-lasting, next-put, put-self}
use Rattle.facet_slots.proofs.walk.advance.Goals as goal

pub returns-then-is_found-clause-next : goal.returns-then-is_found-clause-next
returns-then-is_found-clause-next g c =
    let draft = c.args.draft.now in
    next-lasting g.M.Meanings.rules (scene_in draft.kept) draft.moved (flags_in draft.kept) (values_in draft.kept) (transition_of c.args.transition.now) (setup_of c.args.setup.now) (setup_of c.args.old_setup.now) (scene_in c.args.old.now) c.args.old.now.shelf draft.kept.shelf c.requires.kept refl refl c.requires.lasting c.args.vertex (sym c.is_found.ensures ∙ c.if-is_found.true)

pub returns-then-is_found-clause-value : goal.returns-then-is_found-clause-value
returns-then-is_found-clause-value g c = record { here = refl; others = λ w. inr refl }

pub returns-then-is_found-clause-flag : goal.returns-then-is_found-clause-flag
returns-then-is_found-clause-flag g c = record { here = refl; others = λ w. inr refl }

pub returns-then-is_found-clause-inputs : goal.returns-then-is_found-clause-inputs
returns-then-is_found-clause-inputs g c = record { here = put-self c.args.draft.now.kept.shelf.inputs c.args.vertex; others = λ w. inr refl }

pub store-requires-clause-lasts : goal.store-requires-clause-lasts
store-requires-clause-lasts g c = sym c.is_found.ensures ∙ c.if-is_found.false

pub returns-clause-next : goal.returns-clause-next
returns-clause-next g c =
    let draft = c.args.draft.now in
    let new = c.store.new.draft in
    next-put g.M.Meanings.rules (scene_in draft.kept) draft.moved (flags_in draft.kept) (values_in draft.kept) (transition_of c.args.transition.now) (setup_of c.args.setup.now) (state_in c.args.old_setup.now c.args.old.now) (held_inputs c.args.old.now.shelf.inputs) c.args.vertex
    c.in_ok-next.next.value (values_in new.kept c.args.vertex) c.in_ok-next.next.flag (flags_in new.kept c.args.vertex) c.in_ok-next.next.inputs (held_inputs new.kept.shelf.inputs c.args.vertex)
    c.in_ok-next.ensures.next c.store.ensures.value.here c.store.ensures.flag.here c.store.ensures.inputs.here

pub returns-clause-value : goal.returns-clause-value
returns-clause-value g c = record { here = refl; others = c.store.ensures.value.others }

pub returns-clause-flag : goal.returns-clause-flag
returns-clause-flag g c = record { here = refl; others = c.store.ensures.flag.others }

pub returns-clause-inputs : goal.returns-clause-inputs
returns-clause-inputs g c = record { here = put-self c.store.new.draft.kept.shelf.inputs c.args.vertex; others = c.store.ensures.inputs.others }

pub returns-clause-lasting : goal.returns-clause-lasting
returns-clause-lasting g c =
    lasting-kept (IsStillIn (setup_of c.args.setup.now) c.args.old.now.shelf) c.args.draft.now.kept.shelf c.store.new.draft.kept.shelf c.args.vertex c.in_ok-next.next.value c.in_ok-next.next.flag (inputs_put c.args.vertex c.in_ok-next.next.inputs) c.requires.lasting c.store.ensures.lasting
    (sym c.is_found.ensures ∙ c.if-is_found.false) c.store.ensures.value c.store.ensures.flag c.store.ensures.inputs
