use Rattle.std.proofs.lemmas.Result.{err_from_is_err_and}
use Rattle.mapping.proofs.Accepted.{accepted_len}
use Rattle.mapping.proofs.Made.{set_made, set_fails}
use Rattle.mapping.proofs.changes.set_of.Goals as goal

pub returns-in_err-of-clause-set : goal.returns-in_err-of-clause-set
returns-in_err-of-clause-set c =
    let p = err_from_is_err_and c.from_residual.result c.from_residual.ensures.1 in
    rw (p.1, p.2) (set_fails c.args.len c.args.changes.now c.in_err-of.field-0.0 c.in_err-of.ensures.refused)

pub returns-clause-set : goal.returns-clause-set
returns-clause-set c = set_made c.args.len c.args.changes.now c.in_ok-of.field-0 c.in_ok-of.ensures.set c.in_ok-of.ensures.accepted

pub returns-clause-fits : goal.returns-clause-fits
returns-clause-fits c = (accepted_len c.args.changes.now c.args.len 16777216 c.in_ok-of.ensures.accepted, c.in_ok-of.ensures.short)
