use Rattle.range_cases.proofs.sharing.mapped_len.Given as goal

abbrev pub ghosts-mapped_twice : goal.ghosts-mapped_twice
ghosts-mapped_twice a = record { name = a.blank.name; parts = a.blank.parts }
