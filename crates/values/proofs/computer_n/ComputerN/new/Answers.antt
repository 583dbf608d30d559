use Rattle.values.proofs.computer_n.ComputerN.new.Goals as goal

pub returns-clause-computes : goal.returns-clause-computes
returns-clause-computes g c = record { callable = c.requires.callable; gives = c.requires.meant }
