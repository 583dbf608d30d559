use Rattle.values.proofs.change_guard.ChangeGuard.new.Goals as goal

pub returns-clause-guards : goal.returns-clause-guards
returns-clause-guards g c = record { callable = c.requires.callable; gives = c.requires.meant }
