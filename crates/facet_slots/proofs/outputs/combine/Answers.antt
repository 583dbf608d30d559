use Rattle.std.proofs.Common.{arith, ◌≡◌, ◌∙◌, All, List, subst, sym}
use Rattle.values.specs.declared.val.Val.{Val}
use Rattle.values.specs.Vals.{IsOf}
use Rattle.facet_slots.specs.FacetValues.{joined}
use Rattle.facet_slots.proofs.Fitting.{joined-one}
use Rattle.facet_slots.proofs.outputs.combine.Goals as goal

pub call-requires-clause-fits : goal.call-requires-clause-fits
call-requires-clause-fits g c =
    let one : joined c.args.inputs.now ≡ c.as_slice.result.now =
    joined-one c.args.inputs.now (omega (arith, c.in-len1.len_below)) (omega (arith, c.in-len1.len_at_least)) c.values-item.result c.values-item.is ∙ sym c.as_slice.ensures in
    subst (λ (xs : List Val). All (IsOf (g.M.Meanings.rules.combine_input c.combiner-rule.result.now.number)) xs) one (rw c.combiner-rule.ensures.number c.requires.fits)
