use Rattle.ext_tree.proofs.walk.Walk.step.Goals as goal

pub returns-in-Enter-clause-goes_on : goal.returns-in-Enter-clause-goes_on
returns-in-Enter-clause-goes_on c = rw c.in-Enter.is c.enter.ensures.goes_on

pub returns-in-Leave-clause-goes_on : goal.returns-in-Leave-clause-goes_on
returns-in-Leave-clause-goes_on c = rw c.in-Leave.is c.leave.ensures.goes_on
