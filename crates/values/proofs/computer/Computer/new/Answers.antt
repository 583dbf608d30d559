use Rattle.values.proofs.computer.Computer.new.Goals as goal

pub returns-clause-computes : goal.returns-clause-computes
returns-clause-computes g c = record { callable = c.requires.callable; gives = c.requires.meant }
