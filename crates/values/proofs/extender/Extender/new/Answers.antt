use Rattle.values.proofs.extender.Extender.new.Goals as goal

pub returns-clause-extends : goal.returns-clause-extends
returns-clause-extends g c = record { callable = c.requires.callable; gives = c.requires.meant }
