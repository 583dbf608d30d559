use Rattle.std.proofs.Common.{ap, ◌∙◌}
use Rattle.transaction.specs.Refusals.{given_refusal}
use Rattle.filters.proofs.Steps.{is-checked}
use Rattle.filters.proofs.check.after_spec.Goals as goal

pub returns-in-Ok-total_after-clause-checked : goal.returns-in-Ok-total_after-clause-checked
returns-in-Ok-total_after-clause-checked c =
    let s = c.args.spec.now in
    let t = c.in-Ok-total_after.ensures in
    is-checked c.args.len c.args.max c.args.before.now s c.start_len-start.result c.start_len-start.ensures c.in-Ok.own c.in-Ok.ensures.set c.in-Ok.ensures.accepted
    c.in-Ok-total_after.total c.given_refusal-refusal.result t.accepted t.total t.short
    (c.given_refusal-refusal.ensures ∙ ap (λ n. given_refusal n s.selection) c.new_len.ensures)
