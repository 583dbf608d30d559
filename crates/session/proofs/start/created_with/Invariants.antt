use Rattle.session.proofs.start.created_with.Given as goal

abbrev pub ghosts-created : goal.ghosts-created
ghosts-created g a = record { name = a.blank.name; parts = a.blank.parts }
