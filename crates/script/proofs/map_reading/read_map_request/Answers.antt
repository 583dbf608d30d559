use Rattle.std.proofs.lemmas.Result.{err_from_is_err_and}
use Rattle.script.specs.Command.{map_request_of}
use Rattle.script.proofs.Bind.{fails_through}
use Rattle.script.proofs.map_reading.read_map_request.Goals as goal

pub returns-in_err-only_fields : goal.returns-in_err-only_fields
unfolding map_request_of
returns-in_err-only_fields c =
    let p = err_from_is_err_and c.from_residual-in_err-only_fields.result c.from_residual-in_err-only_fields.ensures.1 in
    rw (p.1, p.2, c.in_ok-members.ensures, c.in_ok-sets.ensures, c.in_ok-op.ensures, c.in_ok-place.ensures) (fails_through c.in_err-only_fields.field-0.0 _ _ c.in_err-only_fields.ensures)
