use Rattle.names.proofs.Starting.{predeclared_kept}
use Rattle.names.proofs.names.Names.new.Goals as goal

pub returns-clause-kept : goal.returns-clause-kept
returns-clause-kept c = rw c.in_ok-take_last.ensures predeclared_kept
