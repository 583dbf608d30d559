use Rattle.values.proofs.combiner.Combiner.new.Goals as goal

pub returns-clause-combines : goal.returns-clause-combines
returns-clause-combines g c = record { callable = c.requires.callable; gives = c.requires.meant }
