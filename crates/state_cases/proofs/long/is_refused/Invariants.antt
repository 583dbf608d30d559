use Rattle.state_cases.proofs.long.is_refused.Given as goal

abbrev pub ghosts-created : goal.ghosts-created
ghosts-created g a = record { name = a.blank.name; parts = a.blank.parts }
