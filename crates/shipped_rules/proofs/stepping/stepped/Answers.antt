use Rattle.std.proofs.Common.{◌∙◌, Result, Ok, Err, IfOk, ap, length, arith}
use Rattle.change_set.proofs.Sizes.{length-apply}
use Rattle.history.specs.Inputs.{StepView}
use Rattle.history.specs.Steps.{step}
use Rattle.values.specs.Updating.{history_input}
use Rattle.shipped_rules.specs.Stepping.{step-input}
use Rattle.shipped_rules.proofs.stepping.stepped.Goals as goal

if_ok : {X E : Type 0} (r : Result X E) (P Q : X → Type 0) → ((x : X) → P x → Q x) → IfOk r P → IfOk r Q
if_ok (Ok x) P Q f h = f x h
if_ok (Err e) P Q f h = tt

pub step-requires-clause-new_short : goal.step-requires-clause-new_short
step-requires-clause-new_short c =
    let k = c.known.ensures in
    rw (ap (λ (i : StepView). i.changes) c.history_input-input.ensures.same) (omega (arith, length-apply c.args.view.now.transaction.changes c.args.view.now.transaction.start k.starts, ap length k.document, k.new_short))

pub returns : goal.returns
returns c = if_ok c.step.result _ _ (λ next e. e ∙ (step-input c.args.history.now _ _ _ c.history_input-input.ensures ∙ ap (λ bounds. step c.args.history.now (history_input c.args.view.now.transaction bounds)) c.history_bounds-bounds.ensures)) c.step.ensures.value
