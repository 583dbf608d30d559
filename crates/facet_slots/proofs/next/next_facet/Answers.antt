use Rattle.std.proofs.Common.{arith, ◌≡◌, ◌≤◌, ◌+◌, ◌||◌, ◌∙◌, sym, ap, not, map, ℕ, Bool, List}
use Rattle.values.specs.declared.val.Val.{Val}
use Rattle.facet_slots.specs.Setups.{input_node}
use Rattle.facet_slots.specs.FacetValues.{joined}
use Rattle.facet_slots.specs.Found.{facet_of}
use Rattle.facet_slots.specs.Lent.{facet_before, flags_in, nodes_before, scene_in, values_in}
use Rattle.facet_slots.proofs.Fitting.{next_fits}
use Rattle.facet_slots.proofs.Nexting.{facet-combined, facet-kept, combined-cost}
use Rattle.facet_slots.proofs.next.next_facet.Goals as goal

pub combined-requires-clause-fits : goal.combined-requires-clause-fits
combined-requires-clause-fits g c =
    rw (c.as_slice.ensures, c.in_ok-inputs.ensures.inputs)
    (next_fits g.M.Meanings.rules g.met.M.Meanings.lawful c.args.facet.now.combine (scene_in c.args.draft.now.kept) c.requires.scene c.args.draft.now.moved (flags_in c.args.draft.now.kept)
    (values_in c.args.draft.now.kept) c.known.ensures (nodes_before c.args.before.now) c.args.before.now.kept.now c.requires.kept_fit (map (input_node c.args.node_defs.now) c.args.nodes.now) c.requires.lawful.inputs)

pub returns-in_err-value-clause-cost : goal.returns-in_err-value-clause-cost
returns-in_err-value-clause-cost g c =
    combined-cost g.M.Meanings.rules (scene_in c.args.draft.now.kept) c.args.draft.now.moved (flags_in c.args.draft.now.kept) (values_in c.args.draft.now.kept) (facet_before c.args.before.now) c.args.before.now.kept.now (facet_of c.args.facet.now c.args.node_defs.now c.args.nodes.now)
    c.in_ok-inputs.field-0.changed c.combined.new.calls c.args.calls.now c.in_ok-inputs.ensures.changed (sym c.if-differs.true ∙ c.differs.ensures c.args.node_defs.now) (omega (arith, c.next_inputs.ensures.cost, c.combined.ensures.cost))

pub returns-in_ok-value-clause-cost : goal.returns-in_ok-value-clause-cost
returns-in_ok-value-clause-cost g c =
    combined-cost g.M.Meanings.rules (scene_in c.args.draft.now.kept) c.args.draft.now.moved (flags_in c.args.draft.now.kept) (values_in c.args.draft.now.kept) (facet_before c.args.before.now) c.args.before.now.kept.now (facet_of c.args.facet.now c.args.node_defs.now c.args.nodes.now)
    c.in_ok-inputs.field-0.changed c.combined.new.calls c.args.calls.now c.in_ok-inputs.ensures.changed (sym c.if-differs.true ∙ c.differs.ensures c.args.node_defs.now) (omega (arith, c.next_inputs.ensures.cost, c.combined.ensures.cost))

pub returns-in_ok-value-clause-next : goal.returns-in_ok-value-clause-next
returns-in_ok-value-clause-next g c =
    facet-combined g.M.Meanings.rules (scene_in c.args.draft.now.kept) c.args.draft.now.moved (flags_in c.args.draft.now.kept) (values_in c.args.draft.now.kept) (facet_before c.args.before.now) c.args.before.now.kept.now (facet_of c.args.facet.now c.args.node_defs.now c.args.nodes.now)
    c.args.old.now c.in_ok-value.field-0.value c.in_ok-value.field-0.flag c.in_ok-inputs.field-0.inputs c.in_ok-inputs.field-0.changed c.in_ok-inputs.ensures.inputs c.in_ok-inputs.ensures.changed (sym c.if-differs.true ∙ c.differs.ensures c.args.node_defs.now)
    (c.in_ok-value.ensures.value ∙ ap (λ (xss : List (List Val)). g.M.Meanings.rules.combine c.args.facet.now.combine (joined xss)) c.as_slice.ensures) c.in_ok-value.ensures.flag

pub returns-in_ok-same-clause-next : goal.returns-in_ok-same-clause-next
returns-in_ok-same-clause-next g c =
    facet-kept g.M.Meanings.rules (scene_in c.args.draft.now.kept) c.args.draft.now.moved (flags_in c.args.draft.now.kept) (values_in c.args.draft.now.kept) (facet_before c.args.before.now) c.args.before.now.kept.now (facet_of c.args.facet.now c.args.node_defs.now c.args.nodes.now)
    c.args.old.now c.in_ok-same.same c.in_ok-inputs.field-0.inputs c.in_ok-inputs.field-0.changed c.in_ok-inputs.ensures.inputs c.in_ok-inputs.ensures.changed (sym c.if-differs.false ∙ c.differs.ensures c.args.node_defs.now) c.in_ok-same.ensures
