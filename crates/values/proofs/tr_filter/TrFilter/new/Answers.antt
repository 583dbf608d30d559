use Rattle.values.proofs.tr_filter.TrFilter.new.Goals as goal

pub returns-clause-filters : goal.returns-clause-filters
returns-clause-filters g c = record { callable = c.requires.callable; gives = c.requires.meant }
