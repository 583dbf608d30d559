use Rattle.std.proofs.lemmas.Result.{err_from_is_err_and}
use Rattle.requests.specs.Requests.{open_of}
use Rattle.script.proofs.Bind.{fails_through}
use Rattle.requests.proofs.open_request.OpenRequestItem.read.Goals as goal

pub returns-in_err-only_fields : goal.returns-in_err-only_fields
unfolding open_of
returns-in_err-only_fields c =
    let p = err_from_is_err_and c.from_residual-in_err-only_fields.result c.from_residual-in_err-only_fields.ensures.1 in
    rw (p.1, p.2, c.in_ok-members.ensures, c.in_ok-file.ensures, c.in_ok-extensions.ensures) (fails_through c.in_err-only_fields.field-0.0 _ _ c.in_err-only_fields.ensures)
