use Rattle.names.proofs.Keeping.{keeps}
use Rattle.names.proofs.declaring.declare.Goals as goal

pub returns-clause-kept : goal.returns-clause-kept
returns-clause-kept g c =
    keeps g.M.Meanings.rules c.declare_one.result c.args.declaration.now c.args.names.now c.declare_one.new.names c.args.registry.now c.declare_one.new.registry c.declare_one.ensures.answer c.declare_one.ensures.names_same
    c.declare_one.ensures.same c.declare_one.ensures.grows
