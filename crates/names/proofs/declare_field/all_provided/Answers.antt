use Rattle.std.proofs.lemmas.Result.{err_from_is_err_and}
use Rattle.names.specs.Names.{each_of}
use Rattle.names.specs.Declaring.{provided_in}
use Rattle.names.proofs.Each.{goes_on, ends, is_done}
use Rattle.names.proofs.declare_field.all_provided.Goals as goal

pub returns-in_err-provided_in : goal.returns-in_err-provided_in
returns-in_err-provided_in c =
    let p = err_from_is_err_and c.from_residual-in_err-provided_in.result c.from_residual-in_err-provided_in.ensures.1 in
    rw (p.1, p.2) (ends (provided_in c.args.names.now) c.in_err-provided_in.field-0.0 c.loop-declared.provided.items c.args.provides.now c.loop-declared.declared-index c.declared-item.result (each_of (provided_in c.args.names.now) c.args.provides.now) c.loop-declared-test.true c.declared-item.is c.in_err-provided_in.ensures c.loop-declared.invariant)

pub loop-declared-preserved : goal.loop-declared-preserved
loop-declared-preserved c =
    rw c.in_ok-push.ensures.items (goes_on (provided_in c.args.names.now) c.loop-declared.provided.items c.in_ok-provided_in.field-0 c.args.provides.now c.loop-declared.declared-index c.declared-item.result (each_of (provided_in c.args.names.now) c.args.provides.now) c.loop-declared-test.true c.declared-item.is c.in_ok-provided_in.ensures c.loop-declared.invariant)

pub returns : goal.returns
returns c = is_done (provided_in c.args.names.now) c.loop-declared.provided.items c.args.provides.now c.loop-declared.declared-index (each_of (provided_in c.args.names.now) c.args.provides.now) c.loop-declared-test.false c.loop-declared.invariant
