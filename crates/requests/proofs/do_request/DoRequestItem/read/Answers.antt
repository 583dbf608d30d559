use Rattle.std.proofs.lemmas.Result.{err_from_is_err_and}
use Rattle.requests.specs.Requests.{do_of}
use Rattle.script.proofs.Bind.{fails_through}
use Rattle.requests.proofs.do_request.DoRequestItem.read.Goals as goal

pub returns-in_err-only_fields : goal.returns-in_err-only_fields
unfolding do_of
returns-in_err-only_fields c =
    let p = err_from_is_err_and c.from_residual-in_err-only_fields.result c.from_residual-in_err-only_fields.ensures.1 in
    rw (p.1, p.2, c.in_ok-members.ensures, c.in_ok-command.ensures, c.in_ok-text.ensures, c.in_ok-direction.ensures, c.in_ok-extend.ensures, c.in_ok-time.ensures) (fails_through c.in_err-only_fields.field-0.0 _ _ c.in_err-only_fields.ensures)
