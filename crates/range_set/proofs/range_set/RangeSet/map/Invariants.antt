use Rattle.range_set.proofs.range_set.RangeSet.map.Given as goal

abbrev pub ghosts-map_uncounted : goal.ghosts-map_uncounted
ghosts-map_uncounted g a = record { name = a.blank.name; parts = a.blank.parts }
