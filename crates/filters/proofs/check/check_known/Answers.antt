use Rattle.std.proofs.Common.{◌∷◌, ◌+◌, drop, sym, ap, subst, ◌∙◌, arith}
use Rattle.std.proofs.lemmas.List.{drop_more}
use Rattle.filters.specs.PrivateSteps.{Checks}
use Rattle.filters.proofs.Steps.{checks-refused, checks-step}
use Rattle.filters.proofs.check.check_known.Goals as goal

pub returns-in-Err-clause-refused : goal.returns-in-Err-clause-refused
returns-in-Err-clause-refused c = λ n.
    let specs = c.args.specs.now in
    let i = c.loop-spec.spec-index in
    let s = c.spec-item.result in
    let p = subst (λ r. Checks c.args.len c.args.max c.args.before.now specs c.loop-spec.total c.loop-spec.refusal r)
    (drop_more specs i s (omega arith) ∙ ap (λ x. x ∷ drop (i + 1) specs) (sym c.spec-item.is)) c.loop-spec.invariant in
    checks-refused c.args.len c.args.max c.args.before.now specs c.loop-spec.total c.loop-spec.refusal s (drop (i + 1) specs) c.in-Err.error p (c.in-Err.ensures.refused n)

pub loop-spec-preserved : goal.loop-spec-preserved
loop-spec-preserved c =
    let specs = c.args.specs.now in
    let i = c.loop-spec.spec-index in
    let s = c.spec-item.result in
    let p = subst (λ r. Checks c.args.len c.args.max c.args.before.now specs c.loop-spec.total c.loop-spec.refusal r)
    (drop_more specs i s (omega arith) ∙ ap (λ x. x ∷ drop (i + 1) specs) (sym c.spec-item.is)) c.loop-spec.invariant in
    checks-step c.args.len c.args.max c.args.before.now specs c.loop-spec.total c.loop-spec.refusal s (drop (i + 1) specs) c.in-Ok.next c.or-refusal.result p c.in-Ok.ensures.checked c.or-refusal.ensures
