use Rattle.session.proofs.update.stepped.Goals as goal

pub returns-clause-state : goal.returns-clause-state
returns-clause-state g c = rw (← c.session.view_is) c.update.ensures.updated

pub returns-clause-refused : goal.returns-clause-refused
returns-clause-refused g c = rw (← c.session.view_is) c.update.ensures.refused
