use Rattle.std.proofs.lemmas.Result.{err_from_is_err_and}
use Rattle.state.proofs.Configurations.{config-found, config-refused}
use Rattle.state.proofs.reconfigured.resolved.Goals as goal

pub returns-in_err-resolved_here-clause-refused : goal.returns-in_err-resolved_here-clause-refused
returns-in_err-resolved_here-clause-refused g c =
    let p = err_from_is_err_and c.from_residual.result c.from_residual.ensures.1 in
    rw p.1 (config-refused c.args.registry.now c.args.extensions.now c.in_err-resolved_here.field-0.0 c.in_err-resolved_here.ensures.refused p.0 p.2)

pub returns-clause-found : goal.returns-clause-found
returns-clause-found g c = config-found c.args.registry.now c.args.extensions.now c.in_ok-resolved_here.field-0 c.in_ok-resolved_here.ensures.config c.in_ok-resolved_here.ensures.ascending
