use Rattle.values.proofs.comparer.Comparer.new.Goals as goal

pub returns-clause-compares : goal.returns-clause-compares
returns-clause-compares g c = record { callable = c.requires.callable; answers = c.requires.meant; reflexive = λ is. cc }
