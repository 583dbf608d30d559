use Rattle.std.proofs.Common.{length, sym, ap, ◌∙◌}
use Rattle.std.proofs.lemmas.Result.{err_from_is_err_and}
use Rattle.line_tree.specs.Text.{max_len}
use Rattle.change_set.specs.Refusals.{refusal}
use Rattle.collab.specs.Clients.{document}
use Rattle.collab.proofs.client.Client.local.Goals as goal

pub returns-in_err-set-clause-refused : goal.returns-in_err-set-clause-refused
returns-in_err-set-clause-refused c =
    let p = err_from_is_err_and c.from_residual.result c.from_residual.ensures.1 in
    rw (p.1, p.2) (λ n. ap (λ x. refusal x max_len c.args.changes.now) (sym (c.len.ensures ∙ ap length (c.self.invariant.0 ∙ ap document c.self.view_is))) ∙ c.in_err-set.ensures.refused n)
