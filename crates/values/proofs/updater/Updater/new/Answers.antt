use Rattle.values.proofs.updater.Updater.new.Goals as goal

pub returns-clause-updates : goal.returns-clause-updates
returns-clause-updates g c = record { callable = c.requires.callable; gives = c.requires.meant }
