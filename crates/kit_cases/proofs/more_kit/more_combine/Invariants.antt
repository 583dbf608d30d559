use Rattle.kit_cases.proofs.more_kit.more_combine.Given as goal

abbrev pub ghosts-combines_more : goal.ghosts-combines_more
ghosts-combines_more g a = record { name = a.blank.name; parts = a.blank.parts }
