use Rattle.values.proofs.creator.Creator.new.Goals as goal

pub returns-clause-creates : goal.returns-clause-creates
returns-clause-creates g c = record { callable = c.requires.callable; gives = c.requires.meant }
