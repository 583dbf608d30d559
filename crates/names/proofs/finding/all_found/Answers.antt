use Rattle.std.proofs.lemmas.Result.{err_from_is_err_and}
use Rattle.names.specs.Names.{each_of, found}
use Rattle.names.proofs.Each.{goes_on, ends, is_done}
use Rattle.names.proofs.finding.all_found.Goals as goal

pub returns-in_err-found : goal.returns-in_err-found
returns-in_err-found g c =
    let p = err_from_is_err_and c.from_residual-in_err-found.result c.from_residual-in_err-found.ensures.1 in
    rw (p.1, p.2) (ends (found g.S.Sought.as_sort c.args.names.now) c.in_err-found.field-0.0 c.loop-name.ids.items c.args.wanted.now c.loop-name.name-index c.name-item.result (each_of (found g.S.Sought.as_sort c.args.names.now) c.args.wanted.now) c.loop-name-test.true c.name-item.is c.in_err-found.ensures c.loop-name.invariant)

pub loop-name-preserved : goal.loop-name-preserved
loop-name-preserved g c =
    rw c.in_ok-push.ensures.items (goes_on (found g.S.Sought.as_sort c.args.names.now) c.loop-name.ids.items c.in_ok-found.field-0 c.args.wanted.now c.loop-name.name-index c.name-item.result (each_of (found g.S.Sought.as_sort c.args.names.now) c.args.wanted.now) c.loop-name-test.true c.name-item.is c.in_ok-found.ensures c.loop-name.invariant)

pub returns : goal.returns
returns g c = is_done (found g.S.Sought.as_sort c.args.names.now) c.loop-name.ids.items c.args.wanted.now c.loop-name.name-index (each_of (found g.S.Sought.as_sort c.args.names.now) c.args.wanted.now) c.loop-name-test.false c.loop-name.invariant
