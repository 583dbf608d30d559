use Rattle.std.proofs.Common.{◌≡◌, ◌≤◌, ◌+◌, [], arith}
use Rattle.configuration.specs.declared.vertex.Vertex.TheVariants.{Facet}
use Rattle.facet_slots.specs.Keeping.{held_inputs}
use Rattle.facet_slots.specs.Due.{calls_of}
use Rattle.facet_slots.specs.Nexts.{next_count}
use Rattle.facet_slots.specs.Lent.{facet_in, flags_in}
use Rattle.facet_slots.proofs.Nexting.{all-new}
use Rattle.facet_slots.proofs.step.new_facet.Goals as goal

pub returns-in_err-made-clause-cost : goal.returns-in_err-made-clause-cost
returns-in_err-made-clause-cost g c =
    let one : next_count c.args.draft.now.moved (flags_in c.args.draft.now.kept) [] (held_inputs c.args.old.now.shelf.inputs (Facet c.args.place)) (facet_in c.args.setup.now c.args.facet.now c.args.place).inputs ≡ calls_of (facet_in c.args.setup.now c.args.facet.now c.args.place).inputs =
    all-new c.args.draft.now.moved (flags_in c.args.draft.now.kept) (held_inputs c.args.old.now.shelf.inputs (Facet c.args.place)) (facet_in c.args.setup.now c.args.facet.now c.args.place).inputs in
    let paid : c.facet_found.new.calls ≤ c.args.calls.now + (calls_of (facet_in c.args.setup.now c.args.facet.now c.args.place).inputs + 1) = rw (← c.as_slice.ensures, ← c.inputs.ensures) c.facet_found.ensures.cost in
    omega (arith, one, paid)

pub returns-clause-cost : goal.returns-clause-cost
returns-clause-cost g c =
    let one : next_count c.args.draft.now.moved (flags_in c.args.draft.now.kept) [] (held_inputs c.args.old.now.shelf.inputs (Facet c.args.place)) (facet_in c.args.setup.now c.args.facet.now c.args.place).inputs ≡ calls_of (facet_in c.args.setup.now c.args.facet.now c.args.place).inputs =
    all-new c.args.draft.now.moved (flags_in c.args.draft.now.kept) (held_inputs c.args.old.now.shelf.inputs (Facet c.args.place)) (facet_in c.args.setup.now c.args.facet.now c.args.place).inputs in
    let paid : c.facet_found.new.calls ≤ c.args.calls.now + (calls_of (facet_in c.args.setup.now c.args.facet.now c.args.place).inputs + 1) = rw (← c.as_slice.ensures, ← c.inputs.ensures) c.facet_found.ensures.cost in
    omega (arith, one, paid)
